use Prim.Native.Nat.{ℕ, ◌<◌}
use mathlib.Core.Path.{◌≡◌}
use mathlib.Core.Bool.{◌&&◌}
use mathlib.Core.List.{List}
use lib.ListN.{length, get_or}
use Rattle.live.specs.Marks.{before, left_at, right_at, marked, all_marked, bit}
use Rattle.live.proofs.write_live.Given as goal

-- the entry of rule j
abbrev pub live_at : List ℕ → List ℕ → List ℕ → List ℕ → List ℕ → ℕ → ℕ
live_at lefts lengths codes productive reached j = bit (marked reached (left_at lefts j) && all_marked productive (right_at lengths codes j))

abbrev pub invariant-loop-i : goal.invariant-loop-i
invariant-loop-i l = (l.u ≡ before l.rules.lengths.now l.i) × (length l.live ≡ length l.initial.live) × ((j : ℕ) → j < l.i → get_or l.live j 0 ≡ live_at l.rules.lefts.now l.rules.lengths.now l.rules.codes.now l.productive l.reached j)
