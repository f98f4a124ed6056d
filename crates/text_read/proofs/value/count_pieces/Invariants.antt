use Prim.Native.Nat.{◌≤◌, ◌-◌}
use mathlib.Core.Path.{◌≡◌}
use lib.ListN.{length, drop}
use Rattle.text.specs.Pieces.{split_on}
use Rattle.text_read.specs.Values.{counted}
use Rattle.text_read.proofs.value.count_pieces.Given as goal

abbrev pub invariant-loop-k : goal.invariant-loop-k
invariant-loop-k l = (l.a ≤ length l.v) × (l.k ≤ l.a) × (counted 0 (split_on l.c (drop l.from l.v)) ≡ counted l.k (split_on l.c (drop l.a l.v)))

abbrev pub decreases-loop-k : goal.decreases-loop-k
decreases-loop-k l = length l.v - l.a
