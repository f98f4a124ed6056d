-- layer_after meets its contract: each return is one case of the definition.
use borrow.Author.Tests.{le-leb, lt-leb, eq-eqb, ne_eqb}
use Rattle.plans.specs.Plan.{layer_after}
use Rattle.plans.proofs.sides.layer_after.Goals as goal

pub returns-then-f-ne0 : goal.returns-then-f-ne0
unfolding layer_after
returns-then-f-ne0 c = simp (ne_eqb _ 0 c.if-f-ne0.true)

pub returns-then-m-s : goal.returns-then-m-s
unfolding layer_after
returns-then-m-s c = simp (eq-eqb _ 0 c.if-f-ne0.false, le-leb _ _ c.if-m-s.true)

pub returns : goal.returns
unfolding layer_after
returns c = simp (eq-eqb _ 0 c.if-f-ne0.false, lt-leb _ _ c.if-m-s.false)
