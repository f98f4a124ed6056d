-- opens_to meets its contract: the class is from m on, and leads there.
use borrow.Author.Tests.{le-leb, lt-leb}
use Rattle.witness_check.proofs.one_side.opens_to.Goals as goal

pub returns-then-member-p : goal.returns-then-member-p
returns-then-member-p c = simp (lt-leb _ _ c.if-member-p.true)

pub returns : goal.returns
returns c = simp (le-leb _ _ c.if-member-p.false) c.leads_to.ensures
