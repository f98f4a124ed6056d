-- write_rules meets its contract: a turn for each rule.
use borrow.Author.Rules.{rules}
use native.Mathlib.Omega.{arith}
use Prim.Native.Nat.{ℕ, ◌+◌, ◌*◌}
use mathlib.Core.Path.{◌≡◌, refl, sym, subst, ◌∙◌}
use lib.ListN.{get_or}
use Rattle.live.specs.Marks.{before}
use Rattle.live.proofs.PassLaws.{before-next}
use Rattle.caller_rows.specs.Clauses.{start_of}
use Rattle.caller_rule.specs.Lent.{six_of}
use Rattle.caller_rows.specs.LevelRows.{RulesWritten}
use Rattle.caller_rows.proofs.LevelRowLaws.{start_up, start-next, rule-kept, alike_none, alike_next, level_next}
use Rattle.caller_rows.proofs.level.write_rules.Goals as goal

pub loop-i-init : goal.loop-i-init
unfolding start_of before
loop-i-init c = (refl, refl, refl, c.requires.wide, λ oldest x. x, alike_none _, (refl, refl, refl, refl, refl, refl))

pub overflow_add-at : goal.overflow_add-at
overflow_add-at c = let l = c.loop-i in
    omega (arith, start_up c.args.lengths.now c.args.widths.now l.i c.args.count (omega arith), l.invariant.0, c.rule_states-at.ensures.0, c.requires.levelled.room)

pub overflow_add-low : goal.overflow_add-low
overflow_add-low c = omega (arith, c.requires.levelled.short c.loop-i.i (omega arith))

pub overflow_mul-low : goal.overflow_mul-low
overflow_mul-low c = let l = c.loop-i in
    omega (arith, start_up c.args.lengths.now c.args.below.now l.i c.args.count (omega arith), l.invariant.1, c.requires.levelled.low-room)

pub overflow_add-low-in-loop-i : goal.overflow_add-low-in-loop-i
overflow_add-low-in-loop-i c = let l = c.loop-i in
    omega (arith, start_up c.args.lengths.now c.args.below.now l.i c.args.count (omega arith), l.invariant.1, c.requires.levelled.low-room)

pub loop-i-preserved : goal.loop-i-preserved
loop-i-preserved c = let l = c.loop-i in
    let a = c.args in (
      (λ j. l.invariant.0 j + c.rule_states-at.ensures.0 j) ∙ sym (start-next a.lengths.now a.widths.now l.i),
      (λ j. l.invariant.1 j + (get_or a.lengths.now l.i 0 + 1) * get_or a.below.now l.i 0) ∙ sym (start-next a.lengths.now a.below.now l.i),
      (λ j. l.invariant.2 j + c.from-u.ensures j) ∙ sym (before-next a.lengths.now l.i),
      rule-kept _ _ _ _ _ _ _ _ _ _ _ _ l.invariant.3 c.write_one.ensures.written,
      λ oldest x. level_next a.lefts.now a.lengths.now a.codes.now a.kinds a.first.now a.callers.now a.below.now a.widths.now a.ranks.now a.count l.i c.requires.levelled (omega arith) l.low l.at oldest (six_of l.rows) _ l.invariant.1 l.invariant.0 (l.invariant.4 oldest x) c.write_one.ensures.written,
      alike_next _ _ _ _ _ _ _ _ _ _ _ _ l.invariant.5 c.write_one.ensures.written,
      search rules,
    )

pub returns-clause-written : goal.returns-clause-written
returns-clause-written c = let l = c.loop-i in
    let a = c.args in
    let z : l.i ≡ a.count = omega arith in
    subst (λ (n : ℕ). RulesWritten a.lefts.now a.lengths.now a.codes.now a.kinds a.first.now a.callers.now a.below.now a.widths.now a.ranks.now n
    (six_of a.rows.now)
    (six_of l.rows)) z l.invariant.4
