-- shared_terminal meets its contract: one test, and the code that both pass.
use borrow.Author.Tests.{le-leb, lt-leb}
use Rattle.steps.proofs.ahead.shared_terminal.Goals as goal

pub returns-then-t-x : goal.returns-then-t-x
returns-then-t-x c = simp (lt-leb _ _ c.if-t-x.true)

pub returns : goal.returns
returns c = simp (le-leb _ _ c.if-t-x.false) c.shared_code.ensures
