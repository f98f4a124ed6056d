-- move_of meets its contract: one test.
use Rattle.steps.proofs.target.move_of.Goals as goal

pub returns-then-closes : goal.returns-then-closes
returns-then-closes c = simp c.if-closes.true

pub returns : goal.returns
returns c = simp c.if-closes.false
