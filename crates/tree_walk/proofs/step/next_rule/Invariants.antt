use mathlib.Core.List.{List}
use Prim.Native.Nat.{ℕ, ◌+◌, ◌-◌, ◌*◌}
use Rattle.grammar.specs.Limits.{limits}
use Rattle.tree_walk.specs.Charted.{rows_of}
use Rattle.tree_walk.specs.Walking.{Course, At, Walks}
use Rattle.tree_walk.proofs.step.next_rule.Given as goal

abbrev pub invariant-loop-walker : goal.invariant-loop-walker
invariant-loop-walker l = Walks (rows_of l.rows) l.work l.walker
    × ((c : Course) (out : List ℕ) → At (rows_of l.rows) c out l.work l.initial.walker → At (rows_of l.rows) c out l.work l.walker)

-- places that wait, and states to come
abbrev pub decreases-loop-walker : goal.decreases-loop-walker
decreases-loop-walker l = l.walker.depth * (limits.max_states + 1) + (limits.max_states - l.walker.p)
