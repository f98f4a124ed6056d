-- nth_step meets its contract: the table's refusal stays the answer; the rows are those of the definition's grammar.
use native.Mathlib.Omega.{arith}
use Prim.Native.Nat.{ℕ, ◌<◌}
use mathlib.Core.Path.{ap, sym, ◌∙◌}
use mathlib.Core.Option.{Option}
use Rattle.grammar.specs.Limits.{limits}
use Rattle.grammar.specs.Grammar.{Grammar}
use Rattle.grammar.specs.Refusal.{Answer, done}
use Rattle.grammar.proofs.Answers.{then-goes, then_stops}
use Rattle.automaton.specs.CallerMoves.{moves_with}
use Rattle.triples.specs.declared.Step.{Step}
use Rattle.steps.specs.Steps.{nth_record, nth_step, record_answer, step_answer}
use Rattle.steps.proofs.Answers.{laid_in, shown-nth, beyond-left, beyond-right}
use Rattle.steps.proofs.nth_step.Goals as goal

-- what follows the refusals up to 8
abbrev then : ℕ → ℕ → ℕ → ℕ → ℕ → Grammar → Answer (Option Step)
then m f p q k G = done (nth_record (moves_with limits G m) f p q k)

pub returns-in-Refused : goal.returns-in-Refused
unfolding nth_step
returns-in-Refused c = let a = c.args in
    ap step_answer (sym (then_stops _ (then a.callers a.layer a.left a.right a.nth) c.in-Refused.cause c.in-Refused.at
    (c.prepare-w.ensures.refused_as c.in-Refused.cause c.in-Refused.at c.in-Refused.is)))

pub returns-then-states-left : goal.returns-then-states-left
unfolding nth_step
returns-then-states-left c = let a = c.args in
    let p = c.prepare-w.ensures.passed_as c.in-Passed.is in
    beyond-left (moves_with limits p.0 a.callers) a.layer a.left a.right a.nth (omega (arith, p.2.size, c.if-states-left.true))
    ∙ ap step_answer (sym (then-goes _ (then a.callers a.layer a.left a.right a.nth) p.0 p.1))

pub returns-then-states-right : goal.returns-then-states-right
unfolding nth_step
returns-then-states-right c = let a = c.args in
    let p = c.prepare-w.ensures.passed_as c.in-Passed.is in
    beyond-right (moves_with limits p.0 a.callers) a.layer a.left a.right a.nth (omega (arith, p.2.size, c.if-states-right.true))
    ∙ ap step_answer (sym (then-goes _ (then a.callers a.layer a.left a.right a.nth) p.0 p.1))

pub slice_bounds-nth_rows-end : goal.slice_bounds-nth_rows-end
slice_bounds-nth_rows-end c = sym (c.prepare-w.ensures.passed_as c.in-Passed.is).2.long

pub nth_rows-requires : goal.nth_rows-requires
nth_rows-requires c = let a = c.args in
    let p = c.prepare-w.ensures.passed_as c.in-Passed.is in
    let r = p.2 in
    let hp : a.left < (moves_with limits p.0 a.callers).states = omega (arith, r.size, c.if-states-left.false) in
    let hq : a.right < (moves_with limits p.0 a.callers).states = omega (arith, r.size, c.if-states-right.false) in record { both = (omega (arith, hp, r.shows.few), omega (arith, hq, r.shows.few)); laid = laid_in (moves_with limits p.0 a.callers) _ _ _ r.shows (omega (arith, r.long)) a.left hp; laid_2 = laid_in (moves_with limits p.0 a.callers) _ _ _ r.shows (omega (arith, r.long)) a.right hq }

pub returns-in-Passed : goal.returns-in-Passed
unfolding nth_step
returns-in-Passed c = let a = c.args in
    let p = c.prepare-w.ensures.passed_as c.in-Passed.is in
    let r = p.2 in
    let hp : a.left < (moves_with limits p.0 a.callers).states = omega (arith, r.size, c.if-states-left.false) in
    let hq : a.right < (moves_with limits p.0 a.callers).states = omega (arith, r.size, c.if-states-right.false) in
    c.nth_rows.ensures
    ∙ ap record_answer (shown-nth (moves_with limits p.0 a.callers) r.regular _ _ _ r.shows a.layer a.left a.right a.nth hp hq)
    ∙ ap step_answer (sym (then-goes _ (then a.callers a.layer a.left a.right a.nth) p.0 p.1))
