use Rattle.std.proofs.Common.{◌≡◌, ◌+◌, ◌-◌, ◌++◌, length}
use Rattle.text.specs.Names.{has_double}
use Rattle.text.specs.Read.{names_of}
use Rattle.doubles.specs.Blocks.{names_from}
use Rattle.doubles.proofs.has_double.Given as goal

abbrev pub invariant-loop-a : goal.invariant-loop-a
invariant-loop-a l = has_double (names_of l.earlier ++ names_from l.v l.a) ≡ has_double (names_of l.earlier ++ names_of l.v)

abbrev pub decreases-loop-a : goal.decreases-loop-a
decreases-loop-a l = length l.v + 1 - l.a
