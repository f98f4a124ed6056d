-- is_end meets its contract: nothing is ahead, and the class is below m.
use borrow.Author.Tests.{eq-eqb, ne_eqb}
use Rattle.steps.proofs.ahead.is_end.Goals as goal

pub returns-then-x-ne0 : goal.returns-then-x-ne0
returns-then-x-ne0 c = simp (ne_eqb _ _ c.if-x-ne0.true)

pub returns : goal.returns
returns c = simp (eq-eqb _ _ c.if-x-ne0.false)
