-- shared_code meets its contract: one test.
use borrow.Author.Tests.{eq-eqb, ne_eqb}
use Rattle.steps.proofs.ahead.shared_code.Goals as goal

pub returns-then-x-y : goal.returns-then-x-y
returns-then-x-y c = simp (eq-eqb _ _ c.if-x-y.true)

pub returns : goal.returns
returns c = simp (ne_eqb _ _ c.if-x-y.false)
