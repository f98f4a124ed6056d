-- `text_write::size::join_length` meets its contract: no byte stands before the first name. Assumes nothing.
use Rattle.std.proofs.Common.{sym, arith}
use Rattle.text_write.proofs.LengthLaws.{join_more, join-none}
use Rattle.text_write.proofs.size.join_length.Goals as goal

pub led_length-requires : goal.led_length-requires
led_length-requires c = omega (arith, join_more c.args.lengths.now c.in-len1-up.len_at_least, c.requires)

pub overflow_add-result : goal.overflow_add-result
overflow_add-result c = omega (arith, join_more c.args.lengths.now c.in-len1-up.len_at_least, c.requires, c.led_length.ensures)

pub returns-in-empty : goal.returns-in-empty
returns-in-empty c = sym (join-none c.args.lengths.now c.in-empty.len_below)

pub returns-in-len1-up : goal.returns-in-len1-up
returns-in-len1-up c = omega (arith, join_more c.args.lengths.now c.in-len1-up.len_at_least, c.led_length.ensures)
