-- closes_to meets its contract: the class is below m, and leads there.
use borrow.Author.Tests.{lt-ltb, le-ltb}
use Rattle.witness_check.proofs.one_side.closes_to.Goals as goal

pub returns-then-m-member : goal.returns-then-m-member
returns-then-m-member c = simp (le-ltb _ _ c.if-m-member.true)

pub returns : goal.returns
returns c = simp (lt-ltb _ _ c.if-m-member.false) c.leads_to.ensures
