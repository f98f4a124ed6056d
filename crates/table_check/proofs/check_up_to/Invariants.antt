use Prim.Native.Nat.{◌-◌}
use lib.ListN.{length}
use Rattle.table_check.proofs.WalkLaws.{Walk}
use Rattle.table_check.proofs.check_up_to.Given as goal

abbrev pub invariant-loop-at : goal.invariant-loop-at
invariant-loop-at l = Walk l.table l.t l.n l.g l.at

abbrev pub decreases-loop-at : goal.decreases-loop-at
decreases-loop-at l = length l.table - l.at
