use Prim.Native.Nat.{◌≤◌}
use Rattle.trees.specs.Trees.{max_row}
use Rattle.sentence_trees.proofs.Faults.{Passed}
use Rattle.sentence_trees.proofs.row_fault.Given as goal

abbrev pub invariant-loop-i : goal.invariant-loop-i
invariant-loop-i l = (l.i ≤ max_row) × Passed l.t l.row l.i
