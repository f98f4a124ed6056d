use Prim.Native.Nat.{ℕ, ◌+◌, ◌*◌, ◌≤◌, ◌<◌}
use lib.ListN.{get_or}
use Rattle.explore.proofs.blocks.split.Given as goal

abbrev pub invariant-loop-k : goal.invariant-loop-k
invariant-loop-k l = (l.from ≤ l.k) × (l.k ≤ l.to) × ((j : ℕ) → l.from ≤ j → j < l.k → l.base + get_or l.row j 0 * l.stride < l.limit)
