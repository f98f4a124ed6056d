use Rattle.std.proofs.Math.Seq.{slice}
use Rattle.text.specs.Pieces.{comma, led_by}
use Rattle.text.specs.Spelled.{spelled}
use Rattle.text_write.proofs.Filling.{Filling}
use Rattle.text_write.proofs.put.put_led.Given as goal

abbrev pub invariant-loop-i : goal.invariant-loop-i
invariant-loop-i l = Filling l.at l.initial.out (led_by comma (slice l.from l.to (spelled l.bytes l.starts l.lengths))) l.j l.out
    (led_by comma (slice l.i l.to (spelled l.bytes l.starts l.lengths)))
