-- is_read meets its contract: from 1 to t.
use borrow.Author.Tests.{le-leb, lt-leb}
use Rattle.steps.proofs.ahead.is_read.Goals as goal

pub returns-then-x-lt1 : goal.returns-then-x-lt1
returns-then-x-lt1 c = simp (lt-leb 1 _ c.if-x-lt1.true)

pub returns : goal.returns
returns c = simp (le-leb 1 _ c.if-x-lt1.false)
