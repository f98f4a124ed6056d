-- A rise takes from the slack. Assumes nothing.
use Prim.Native.Nat.{ℕ, zero, suc, ◌+◌, ◌-◌, ◌≤◌, ◌<◌}
use mathlib.Core.Path.{◌≡◌, ap}
use mathlib.Core.List.{List, [], ◌∷◌}
use native.Mathlib.Omega.{arith}
use lib.ListN.{length, get_or, set}
use Rattle.tree_laws.specs.Chart.{cap}
use Rattle.tree_laws.proofs.Cap.{cap-same, cap_many, cap-most}
use Rattle.chart.specs.Rows.{slack, Settles}

slack_less : (l : List ℕ) (k v : ℕ) → k < length l → 2 - v < 2 - get_or l k 0 → slack (set l k v) < slack l
unfolding slack
slack_less [] k v h g = absurd (omega arith)
slack_less (x ∷ l) zero v h g = omega arith
slack_less (x ∷ l) (suc k) v h g = omega (arith, slack_less l k v (omega arith) g)

slack_keeps : (l : List ℕ) (k v : ℕ) → 2 - v ≤ 2 - get_or l k 0 → slack (set l k v) ≤ slack l
unfolding slack
slack_keeps [] k v g = omega arith
slack_keeps (x ∷ l) zero v g = omega arith
slack_keeps (x ∷ l) (suc k) v g = omega (arith, slack_keeps l k v g)

-- a count that rises to a capped number was below 2
pub settles_slack : {made at rise : ℕ} {row row' : List ℕ} → Settles made at rise row row' → at < length row → 1 ≤ rise → slack row' < slack row
settles_slack {made} {at} {rise} {row} s h g =
    let q = s.exact g in
    let z : slack (set row at (get_or row at 0 + rise)) < slack row = slack_less row at (get_or row at 0 + rise) h (omega (arith, cap-most made)) in
    omega (arith, ap slack s.store)

whole-slack : (row : List ℕ) (k rise : ℕ) → slack (set row k (cap (get_or row k 0 + rise))) ≤ slack row
whole-slack row k rise = slack_keeps row k (cap (get_or row k 0 + rise)) (low (get_or row k 0) rise)
  where
    low : (x y : ℕ) → 2 - cap (x + y) ≤ 2 - x
    low zero y = omega arith
    low (suc zero) zero = omega (arith, cap-same 1 (omega arith), ap cap (let q : suc zero + zero ≡ 1 = omega arith in q))
    low (suc zero) (suc y) = omega (arith, cap_many (suc zero + suc y) (omega arith))
    low (suc (suc x)) y = omega (arith, cap_many (suc (suc x) + y) (omega arith))

pub settles_keeps : {made at rise : ℕ} {row row' : List ℕ} → Settles made at rise row row' → slack row' ≤ slack row
settles_keeps {at = at} {rise} {row} s =
    let z : slack (set row at (get_or row at 0 + rise)) ≤ slack row = slack_keeps row at (get_or row at 0 + rise) (omega arith) in
    omega (arith, ap slack s.store)

pub raise_slack : (row : List ℕ) {row' : List ℕ} (k rise : ℕ) → row' ≡ set row k (cap (get_or row k 0 + rise)) → slack row' ≤ slack row
raise_slack row k rise e = omega (arith, ap slack e, whole-slack row k rise)
