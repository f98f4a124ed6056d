use Rattle.std.proofs.Common.{◌≡◌, ◌+◌, drop}
use Rattle.text_write.specs.Length.{led_length}
use Rattle.text_write.proofs.size.led_length.Given as goal

abbrev pub invariant-loop-length : goal.invariant-loop-length
invariant-loop-length l = l.total + led_length (drop l.length-index l.lengths) ≡ led_length l.lengths
