use Prim.Native.Nat.{◌-◌}
use lib.ListN.{length}
use Rattle.joining.proofs.Putting.{Putting}
use Rattle.joining.proofs.rules.put_rules.Given as goal

abbrev pub invariant-loop-at : goal.invariant-loop-at
invariant-loop-at l = Putting l.table l.terminals l.nonterminals l.initial.row l.end l.row l.to l.at

abbrev pub decreases-loop-at : goal.decreases-loop-at
decreases-loop-at l = length l.table - l.at
