use mathlib.Core.Path.{◌≡◌}
use Prim.Native.Nat.{◌*◌, ◌≤◌}
use lib.ListN.{length}
use Rattle.explore.specs.State.{held, Pushed, Grid}
use Rattle.explore.proofs.blocks.push_grid.Given as goal

abbrev pub invariant-loop-k : goal.invariant-loop-k
invariant-loop-k l = (l.left_from ≤ l.k)
    × (l.k ≤ l.left_end)
    × Pushed l.place (Grid l.row l.q l.left_from l.k l.right_from l.right_end (l.q * l.q)) (held l.initial.queue l.initial.parents l.count) (held l.queue l.parents l.end)
    × (length l.queue ≡ length l.initial.queue)
    × (length l.parents ≡ length l.initial.parents)
