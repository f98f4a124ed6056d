use Prim.Native.Nat.{ℕ, ◌<◌}
use mathlib.Core.Path.{◌≡◌}
use mathlib.Core.Bool.{true}
use lib.ListN.{get_or}
use Rattle.live.specs.Marks.{marked}
use Rattle.live.proofs.marks.all_marked.Given as goal

abbrev pub invariant-loop-x : goal.invariant-loop-x
invariant-loop-x l = (e : ℕ) → e < l.x-index → marked l.marks (get_or l.codes e 0) ≡ true
