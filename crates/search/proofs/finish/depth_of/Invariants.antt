use Prim.Native.Nat.{ℕ, ◌+◌, ◌≤◌}
use Rattle.tops.specs.Tops.{lows}
use Rattle.search.specs.Finish.{Depth}
use Rattle.search.proofs.finish.depth_of.Given as goal

abbrev pub invariant-loop-at : goal.invariant-loop-at
invariant-loop-at l = (l.at + l.d ≤ l.place) × ((x : ℕ) → Depth (lows l.parents) l.at x → Depth (lows l.parents) l.place (x + l.d))

abbrev pub decreases-loop-at : goal.decreases-loop-at
decreases-loop-at l = l.at
