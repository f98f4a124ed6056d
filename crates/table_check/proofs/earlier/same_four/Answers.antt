-- same_four meets its contract: the four codes are compared, then those after them. Assumes nothing.
use Rattle.table_check.proofs.EarlierLaws.{four_steps}
use Rattle.table_check.proofs.earlier.same_four.Goals as goal

pub returns : goal.returns
returns c = four_steps c.args.a.now c.args.b.now c.args.i c.requires.0 c.requires.1
