-- `drafts::adding::stands_before` meets its contract: the rules up to the offset are compared one by one.
-- Assumes nothing.
use Prim.Native.Nat.{ℕ}
use mathlib.Core.Path.{ap, sym, ◌∙◌}
use native.Mathlib.Omega.{arith}
use Rattle.grammar.specs.Table.{rule_at}
use Rattle.grammar.specs.TableCheck.{same_rule}
use Rattle.drafts.proofs.Earlier.{behind_start, behind_whole, behind_found, behind_more, behind_end}
use Rattle.drafts.proofs.adding.stands_before.Goals as goal

pub loop-o-init : goal.loop-o-init
loop-o-init c = behind_start _ _ _ c.requires

pub same_rule-requires : goal.same_rule-requires
same_rule-requires c = let l = c.loop-o in
    let w = l.invariant.whole in
    let h = behind_whole _ _ _ _ l.invariant c.loop-o-test.true in
    let e = c.from-m.ensures in
    (omega (arith, w, h, e), w)

pub returns-then-same_rule : goal.returns-then-same_rule
returns-then-same_rule c = let a = c.args in
    let l = c.loop-o in
    behind_found _ _ _ _ l.invariant c.loop-o-test.true
    (ap (λ (m : ℕ). same_rule (rule_at a.table.now l.o m) (rule_at a.table.now a.at a.k)) (sym c.from-m.ensures)
    ∙ sym c.same_rule.ensures ∙ c.if-same_rule.true)

pub loop-o-preserved : goal.loop-o-preserved
loop-o-preserved c = let l = c.loop-o in
    behind_more _ _ _ _ l.invariant _ c.from-m.ensures c.loop-o-test.true
    (sym c.same_rule.ensures ∙ c.if-same_rule.false)

pub returns : goal.returns
returns c = behind_end _ _ _ _ c.loop-o.invariant c.loop-o-test.false
