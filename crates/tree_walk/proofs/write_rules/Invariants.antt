use Rattle.tree_walk.specs.Charted.{rows_of}
use Rattle.tree_walk.specs.Walking.{Course, Begun}
use Rattle.tree_walk.proofs.Totals.{Listing}
use Rattle.tree_walk.proofs.write_rules.Given as goal

abbrev pub invariant-loop-entry : goal.invariant-loop-entry
invariant-loop-entry l = (c : Course) → Begun (rows_of l.rows) c l.initial.work → Listing (rows_of l.rows) c l.initial.list l.work l.list l.walker l.entry-index
