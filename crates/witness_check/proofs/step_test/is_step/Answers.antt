-- is_step meets its contract: the layers choose the test.
use borrow.Author.Tests.{eq-eqb, ne_eqb}
use Rattle.witness_check.specs.StepTest.{is_step}
use Rattle.witness_check.proofs.step_test.is_step.Goals as goal

pub returns-then-to-eq0 : goal.returns-then-to-eq0
unfolding is_step
returns-then-to-eq0 c = simp (eq-eqb _ 0 c.if-from-eq0.true, eq-eqb _ 0 c.if-to-eq0.true) c.stays_together.ensures

pub returns-then-from-eq0 : goal.returns-then-from-eq0
unfolding is_step
returns-then-from-eq0 c = simp (eq-eqb _ 0 c.if-from-eq0.true, ne_eqb _ 0 c.if-to-eq0.false) c.parts_here.ensures

pub returns-then-to-eq0-2 : goal.returns-then-to-eq0-2
unfolding is_step
returns-then-to-eq0-2 c = simp (ne_eqb _ 0 c.if-from-eq0.false, eq-eqb _ 0 c.if-to-eq0-2.true)

pub returns : goal.returns
unfolding is_step
returns c = simp (ne_eqb _ 0 c.if-from-eq0.false, ne_eqb _ 0 c.if-to-eq0-2.false) c.goes_on.ensures
