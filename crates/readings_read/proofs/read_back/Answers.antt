-- `readings_read::read_back` meets its contract: both sizes of rows suffice. Assumes nothing.
use native.Mathlib.Omega.{arith}
use lib.ListN.{length}
use Rattle.text_read.proofs.Rooms.{rows-small, rows-large}
use Rattle.readings_read.proofs.read_back.Goals as goal

pub back_with-requires-clause-rows : goal.back_with-requires-clause-rows
back_with-requires-clause-rows c = rows-small (length c.args.text.now) (omega (arith, c.if-text-le-SMALL_TEXT.true))

pub back_with-requires-2-clause-rows : goal.back_with-requires-2-clause-rows
back_with-requires-2-clause-rows c = rows-large (length c.args.text.now)
