use Rattle.std.proofs.Common.{take}
use Rattle.text.specs.Spelled.{spelled}
use Rattle.joining.specs.Gathering.{Puts}
use Rattle.joining.proofs.gathering.put_all.Given as goal

abbrev pub invariant-loop-i : goal.invariant-loop-i
invariant-loop-i l = Puts (take l.i (spelled l.text l.starts l.lengths)) l.k l.initial.bytes l.initial.places l.initial.spans l.bytes l.places l.spans
