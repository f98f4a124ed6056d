-- layer_of meets its contract: the two returns are the two cases.
use borrow.Author.Tests.{lt-ltb, le-ltb}
use Rattle.plans.proofs.layer_of.Goals as goal

pub returns-then-row-q : goal.returns-then-row-q
returns-then-row-q c = simp (lt-ltb _ _ c.if-row-q.true)

pub returns : goal.returns
returns c = simp (le-ltb _ _ c.if-row-q.false)
