use Rattle.tree_walk.specs.Charted.{rows_of}
use Rattle.tree_walk.specs.Walking.{Course, Begun}
use Rattle.tree_walk.proofs.Totals.{Counting}
use Rattle.tree_walk.proofs.count_rules.Given as goal

abbrev pub invariant-loop-count : goal.invariant-loop-count
invariant-loop-count l = (c : Course) → Begun (rows_of l.rows) c l.initial.work → Counting (rows_of l.rows) c l.work l.walker l.count
