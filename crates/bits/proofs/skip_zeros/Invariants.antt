use Prim.Native.Nat.{◌-◌}
use lib.ListN.{length}
use Rattle.bits.specs.Windows.{ClearTo}
use Rattle.bits.proofs.skip_zeros.Given as goal

abbrev pub invariant-loop-b : goal.invariant-loop-b
invariant-loop-b l = ClearTo l.bytes l.from l.b

abbrev pub decreases-loop-b : goal.decreases-loop-b
decreases-loop-b l = length l.bytes - l.b
