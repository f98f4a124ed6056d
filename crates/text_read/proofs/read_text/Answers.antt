-- `text_read::read_text` meets its contract: both sizes of rows suffice. Assumes nothing.
use native.Mathlib.Omega.{arith}
use lib.ListN.{length}
use Rattle.text_read.proofs.Rooms.{rows-small, rows-large}
use Rattle.text_read.proofs.read_text.Goals as goal

pub read_with-requires-clause-rows : goal.read_with-requires-clause-rows
read_with-requires-clause-rows c = rows-small (length c.args.text.now) (omega (arith, c.if-text-le-SMALL_TEXT.true))

pub read_with-requires-2-clause-rows : goal.read_with-requires-2-clause-rows
read_with-requires-2-clause-rows c = rows-large (length c.args.text.now)

pub returns-then-text-le-SMALL_TEXT : goal.returns-then-text-le-SMALL_TEXT
returns-then-text-le-SMALL_TEXT c = c.read_with.ensures

pub returns : goal.returns
returns c = c.read_with-2.ensures
