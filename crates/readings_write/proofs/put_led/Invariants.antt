use Rattle.std.proofs.Common.{drop}
use Rattle.text.specs.Spelled.{spelled}
use Rattle.text_write.proofs.Filling.{Filling}
use Rattle.readings_write.specs.Clauses.{led_of}
use Rattle.readings_write.proofs.put_led.Given as goal

abbrev pub invariant-loop-letter : goal.invariant-loop-letter
invariant-loop-letter l =
    Filling l.at l.initial.out (led_of l.t (spelled l.text l.starts l.lengths) l.letters) l.j l.out
    (led_of l.t (spelled l.text l.starts l.lengths) (drop l.letter-index l.letters))
