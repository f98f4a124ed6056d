-- `text_write::size::led_length` meets its contract: the total and what the entries from the index on give are the whole. Assumes nothing.
use Rattle.std.proofs.Common.{arith}
use Rattle.text_write.proofs.LengthLaws.{led-more, led-none}
use Rattle.text_write.proofs.size.led_length.Goals as goal

pub loop-length-preserved : goal.loop-length-preserved
loop-length-preserved c = omega (arith, led-more c.args.lengths.now c.loop-length.length-index c.loop-length-test.true)

pub returns : goal.returns
returns c = omega (arith, led-none c.args.lengths.now c.loop-length.length-index c.loop-length-test.false)
