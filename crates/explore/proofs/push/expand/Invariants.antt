use mathlib.Core.Path.{◌≡◌}
use Prim.Native.Nat.{◌≤◌}
use lib.ListN.{length}
use Rattle.explore.specs.State.{held, Pushed, Along}
use Rattle.explore.proofs.push.expand.Given as goal

abbrev pub invariant-loop-k : goal.invariant-loop-k
invariant-loop-k l = (l.from ≤ l.k)
    × (l.k ≤ l.to)
    × Pushed l.place (Along l.row l.from l.k l.base l.stride) (held l.initial.queue l.initial.parents l.count) (held l.queue l.parents l.end)
    × (length l.queue ≡ length l.initial.queue)
    × (length l.parents ≡ length l.initial.parents)
