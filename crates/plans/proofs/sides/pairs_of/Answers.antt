-- pairs_of meets its contract: each return is one case of the definition.
use borrow.Author.Tests.{lt-ltb, le-ltb, eq-eqb, ne_eqb}
use Rattle.plans.specs.Plan.{pairs_of}
use Rattle.plans.proofs.sides.pairs_of.Goals as goal

pub returns-then-f-ne0 : goal.returns-then-f-ne0
unfolding pairs_of
returns-then-f-ne0 c = simp (ne_eqb _ 0 c.if-f-ne0.true)

pub returns-then-m-left : goal.returns-then-m-left
unfolding pairs_of
returns-then-m-left c = simp (eq-eqb _ 0 c.if-f-ne0.false, le-ltb _ _ c.if-m-left.true)

pub returns-then-m-right : goal.returns-then-m-right
unfolding pairs_of
returns-then-m-right c = simp (eq-eqb _ 0 c.if-f-ne0.false, lt-ltb _ _ c.if-m-left.false, le-ltb _ _ c.if-m-right.true)

pub returns-then-number-a : goal.returns-then-number-a
unfolding pairs_of
returns-then-number-a c = simp (eq-eqb _ 0 c.if-f-ne0.false, lt-ltb _ _ c.if-m-left.false, lt-ltb _ _ c.if-m-right.false, eq-eqb _ _ c.if-number-a.true)

pub returns : goal.returns
unfolding pairs_of
returns c = simp (eq-eqb _ 0 c.if-f-ne0.false, lt-ltb _ _ c.if-m-left.false, lt-ltb _ _ c.if-m-right.false, ne_eqb _ _ c.if-number-a.false)
