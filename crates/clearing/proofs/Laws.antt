-- A front that is written over a row, and a front of zeros. Assumes nothing.
use Prim.Native.Nat.{ℕ, zero, suc, ◌+◌, ◌-◌, ◌≤◌, ◌<◌}
use mathlib.Core.Path.{◌≡◌, refl, sym, ap, subst, ◌∙◌}
use mathlib.Core.List.{List, ◌++◌}
use native.Mathlib.Nat.{le_refl}
use native.Mathlib.Omega.{arith}
use lib.ListN.{length, get_or, take, drop, replicate, length-replicate}
use lib.Seq.{get_or-take, drop-append-add, drop-drop}
use Rattle.grammar.specs.Basics.{over}

-- a front of known length over a row
pub over_is : (front old : List ℕ) (n : ℕ) → length front ≡ n → front ++ drop n old ≡ over front old
unfolding over
over_is front old n e = ap (λ (k : ℕ). front ++ drop k old) (sym e)

-- past the front the row is as it was
pub over-rest : (front old : List ℕ) (n : ℕ) → length front ≤ n → drop n (over front old) ≡ drop n old
unfolding over
over-rest front old n h =
    let k = n - length front in
    let e : length front + k ≡ n = omega arith in
    subst (λ (m : ℕ). drop m (front ++ drop (length front) old) ≡ drop m old) e
    (drop-append-add front (drop (length front) old) k ∙ drop-drop k (length front) old)

zeros_part : (n u k : ℕ) (l : List ℕ) → u ≤ n → ◌≡◌ {A = ℕ} (get_or (take u (replicate n 0 ++ l)) k 0) 0
zeros_part n zero k l h = refl
zeros_part zero (suc u) k l h = absurd (omega arith)
zeros_part (suc n) (suc u) zero l h = refl
zeros_part (suc n) (suc u) (suc k) l h = zeros_part n u k l (omega arith)

-- a part of a front of zeros, and its entries
pub cleared-part : (n u k : ℕ) (row : List ℕ) → u ≤ n → get_or (take u (over (replicate n 0) row)) k 0 ≡ 0
unfolding over
cleared-part n u k row h = zeros_part n u k (drop (length (replicate {A = ℕ} n 0)) row) h

pub cleared_at_lem : (n : ℕ) (row : List ℕ) (i : ℕ) → i < n → get_or (over (replicate n 0) row) i 0 ≡ 0
cleared_at_lem n row i h = sym (get_or-take n (over (replicate n 0) row) i 0 h) ∙ cleared-part n n i row (le_refl n)

-- past it the row is as it was
pub cleared-rest : (n m : ℕ) (row : List ℕ) → n ≤ m → drop m (over (replicate n 0) row) ≡ drop m row
cleared-rest n m row h = over-rest (replicate n 0) row m (omega (arith, length-replicate {A = ℕ} n 0))

-- a row is cleared from what is past its front
pub cleared-same : (n : ℕ) (old row : List ℕ) → drop n row ≡ drop n old → over (replicate n 0) row ≡ over (replicate n 0) old
unfolding over
cleared-same n old row e =
    let z : length (replicate {A = ℕ} n 0) ≡ n = length-replicate n 0 in
    ap (λ (l : List ℕ). replicate n 0 ++ l) (ap (λ (k : ℕ). drop k row) z ∙ e ∙ ap (λ (k : ℕ). drop k old) (sym z))
