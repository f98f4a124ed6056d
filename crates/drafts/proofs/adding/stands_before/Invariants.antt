use Prim.Native.Nat.{◌-◌}
use Rattle.drafts.proofs.Earlier.{Behind}
use Rattle.drafts.proofs.adding.stands_before.Given as goal

abbrev pub invariant-loop-o : goal.invariant-loop-o
invariant-loop-o l = Behind l.table l.at l.k l.o

abbrev pub decreases-loop-o : goal.decreases-loop-o
decreases-loop-o l = l.at - l.o
