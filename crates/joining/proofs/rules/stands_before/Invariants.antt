use Prim.Native.Nat.{◌-◌}
use Rattle.joining.proofs.Seeking.{Seeking}
use Rattle.joining.proofs.rules.stands_before.Given as goal

abbrev pub invariant-loop-o : goal.invariant-loop-o
invariant-loop-o l = Seeking l.row l.end l.at l.k l.o

abbrev pub decreases-loop-o : goal.decreases-loop-o
decreases-loop-o l = l.end - l.o
