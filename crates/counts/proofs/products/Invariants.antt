use Prim.Native.Nat.{◌+◌, ◌≤◌}
use mathlib.Core.Path.{◌≡◌}
use lib.ListN.{length}
use Rattle.std.specs.Slice.Iter.{iter_rest}
use Rattle.std.specs.Iterator.Adapters.{zip_first, zip_second}
use Rattle.tree_laws.specs.Chart.{cap}
use Rattle.counts.specs.Counts.{dot}
use Rattle.counts.proofs.products.Given as goal

abbrev pub invariant-loop-x : goal.invariant-loop-x
invariant-loop-x l = (l.sum ≤ 1)
    × (length (iter_rest (zip_first l.x-iterator)) ≡ length (iter_rest (zip_second l.x-iterator)))
    × (cap (l.sum + dot (iter_rest (zip_first l.x-iterator)) (iter_rest (zip_second l.x-iterator))) ≡ cap (dot l.xs l.ys))
