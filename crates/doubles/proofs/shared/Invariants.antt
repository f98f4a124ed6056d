use Prim.Native.Nat.{◌+◌, ◌-◌}
use mathlib.Core.Path.{◌≡◌}
use lib.ListN.{length}
use Rattle.text.specs.Spelled.{spelled}
use Rattle.doubles.specs.Blocks.{meet, names_from}
use Rattle.doubles.proofs.shared.Given as goal

abbrev pub invariant-loop-next : goal.invariant-loop-next
invariant-loop-next l = meet (names_from l.u l.next) (spelled l.v l.starts l.lengths) ≡ meet (names_from l.u l.a) (spelled l.v l.starts l.lengths)

abbrev pub decreases-loop-next : goal.decreases-loop-next
decreases-loop-next l = length l.u + 1 - l.next
