-- Cells of the work row: unequal places have unequal cells, so a store changes one count. Assumes nothing.
use Prim.Native.Nat.{ℕ, zero, suc, ◌+◌, ◌-◌, ◌*◌, ◌≤◌, ◌<◌}
use mathlib.Core.Path.{◌≡◌, refl, sym, ap}
use mathlib.Core.Logic.{inl, inr}
use mathlib.Core.List.{List, [], ◌∷◌}
use native.Mathlib.Omega.{arith}
use native.Mathlib.Nat.{mul-le-mul, le_refl, suc-mul, eq-zero-or-pos}
use lib.ListN.{length, get_or, set}
use Rattle.counts.specs.Counts.{item_cell, whole_cell}
use Rattle.counts.specs.View.{nonzeros}

no_less : (a b c d m : ℕ) → b < m → a < c → a * m + b ≡ c * m + d → ⊥
no_less a b c d m h g e = let q : suc a * m ≤ c * m = mul-le-mul g (le_refl m) in omega (arith, suc-mul a m)

pub digits : (a b c d m : ℕ) → b < m → d < m → a * m + b ≡ c * m + d → (a ≡ c) × (b ≡ d)
digits a b c d m h g e = elim (eq-zero-or-pos (c - a)) [
  | inr l ↦ absurd (no_less a b c d m h (omega arith) e)
  | inl l ↦ elim (eq-zero-or-pos (a - c)) [
    | inr k ↦ absurd (no_less c d a b m g (omega arith) (sym e))
    | inl k ↦ let q : a ≡ c = omega arith in (q, let z : a * m ≡ c * m = ap (λ x. x * m) q in omega arith)
  ]
]

pub cells_apart : (m p i j q k l : ℕ) → i < m → j < m → k < m → l < m → item_cell m p i j ≡ item_cell m q k l → (p ≡ q) × (i ≡ k) × (j ≡ l)
cells_apart m p i j q k l hi hj hk hl e =
    let x = digits (p * m + j) i (q * m + l) k m hi hk e in
    let y = digits p j q l m hj hl x.0 in
    (y.0, x.1, y.1)

-- an item's cell is no cell of another state's home
pub homes_apart : (m p i j h k l : ℕ) → i < m → j < m → k < m → l < m → (p ≡ h → ⊥) → item_cell m p i j ≡ whole_cell m h k l → ⊥
homes_apart m p i j h k l hi hj hk hl n e = n (cells_apart m p i j h l k hi hj hl hk e).0

-- a count raised from 0 adds one, and there are no more than cells
pub nonzeros-most : (l : List ℕ) → nonzeros l ≤ length l
unfolding nonzeros
nonzeros-most [] = omega arith
nonzeros-most (zero ∷ l) = omega (arith, nonzeros-most l)
nonzeros-most (suc x ∷ l) = omega (arith, nonzeros-most l)

pub nonzeros-more : (l : List ℕ) (k v : ℕ) → k < length l → get_or l k 0 ≡ 0 → 1 ≤ v → nonzeros (set l k v) ≡ suc (nonzeros l)
unfolding nonzeros
nonzeros-more [] k v h e g = absurd (omega arith)
nonzeros-more (x ∷ l) k zero h e g = absurd (omega arith)
nonzeros-more (zero ∷ l) zero (suc v) h e g = refl
nonzeros-more (suc x ∷ l) zero (suc v) h e g = absurd (omega arith)
nonzeros-more (zero ∷ l) (suc k) (suc v) h e g = nonzeros-more l k (suc v) (omega arith) e g
nonzeros-more (suc x ∷ l) (suc k) (suc v) h e g = ap suc (nonzeros-more l k (suc v) (omega arith) e g)

pub nonzeros-keep : (l : List ℕ) (k v : ℕ) → 1 ≤ v → nonzeros l ≤ nonzeros (set l k v)
unfolding nonzeros
nonzeros-keep [] k v g = omega arith
nonzeros-keep (x ∷ l) k zero g = absurd (omega arith)
nonzeros-keep (zero ∷ l) zero (suc v) g = omega arith
nonzeros-keep (suc x ∷ l) zero (suc v) g = omega arith
nonzeros-keep (zero ∷ l) (suc k) (suc v) g = nonzeros-keep l k (suc v) g
nonzeros-keep (suc x ∷ l) (suc k) (suc v) g = omega (arith, nonzeros-keep l k (suc v) g)
