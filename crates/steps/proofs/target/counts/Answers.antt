-- counts meets its contract: two tests, the bounds.
use borrow.Author.Tests.{lt-ltb, le-ltb, le-leb, lt-leb}
use Rattle.steps.proofs.target.counts.Goals as goal

pub returns-then-x-from : goal.returns-then-x-from
returns-then-x-from c = simp (lt-leb _ _ c.if-x-from.true)

pub returns-then-to-x : goal.returns-then-to-x
returns-then-to-x c = simp (le-leb _ _ c.if-x-from.false, le-ltb _ _ c.if-to-x.true)

pub returns : goal.returns
returns c = simp (le-leb _ _ c.if-x-from.false, lt-ltb _ _ c.if-to-x.false)
