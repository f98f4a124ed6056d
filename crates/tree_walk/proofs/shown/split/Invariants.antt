use Prim.Native.Nat.{ℕ, ◌≤◌, ◌<◌}
use Rattle.tree_walk.specs.Charted.{rows_of, width, Both}
use Rattle.tree_walk.proofs.shown.split.Given as goal

abbrev pub invariant-loop-k : goal.invariant-loop-k
invariant-loop-k l = (s : ℕ) → l.i ≤ s → s < l.k → Both l.work (width (rows_of l.rows)) l.h l.z l.i s l.j → ⊥
