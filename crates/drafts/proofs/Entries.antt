-- The marks emptied, the front of a new draft. Assumes nothing.
use Prim.Native.Nat.{ℕ, zero, suc, ◌+◌, ◌-◌, ◌*◌, ◌≤◌}
use mathlib.Core.Path.{◌≡◌, refl, ap, sym, ◌∙◌}
use mathlib.Core.List.{List, [], ◌∷◌, ◌++◌}
use native.Mathlib.Omega.{arith}
use lib.ListN.{length, set, drop, length-set}
use lib.Seq.{paste, take-length}
use Rattle.drafts.specs.Row.{block_size, block_at, splice, emptied}

pub emptied-length : (m : ℕ) (row : List ℕ) → length (emptied m row) ≡ length row
unfolding emptied
emptied-length zero row = refl
emptied-length (suc m) row = length-set (emptied m row) (block_at (suc m)) 0 ∙ emptied-length m row

pub emptied-none : (row : List ℕ) → row ≡ emptied 0 row
unfolding emptied
emptied-none row = refl

pub emptied-more : (k : ℕ) (at row : List ℕ) → 1 ≤ k → at ≡ emptied (k - 1) row → set at (2 + k * block_size) 0 ≡ emptied (k + 1 - 1) row
unfolding emptied
emptied-more zero at row h e = absurd (omega (arith, h))
emptied-more (suc k) at row h e =
    let z : suc k - 1 ≡ k = omega arith in
    let y : suc k + 1 - 1 ≡ suc k = omega arith in
    ap (λ (l : List ℕ). set l (2 + suc k * block_size) 0) (e ∙ ap (λ (j : ℕ). emptied j row) z) ∙ ap (λ (j : ℕ). emptied j row) (sym y)

-- the front of a new draft
pub begin-row : (row table : List ℕ) (t n cell : ℕ) → 3 ≤ length row
    → set (set (set (paste row 3 table (length table)) 0 t) 1 n) 2 cell ≡ splice row 0 (t ∷ n ∷ cell ∷ table)
begin-row (x ∷ y ∷ z ∷ row) table t n cell h =
    let q : 3 + length table ≡ 0 + suc (suc (suc (length table))) = omega arith in
    ap (λ (l : List ℕ). t ∷ n ∷ cell ∷ (l ++ drop (3 + length table) (x ∷ y ∷ z ∷ row))) (take-length table)
    ∙ ap (λ (m : ℕ). t ∷ n ∷ cell ∷ (table ++ drop m (x ∷ y ∷ z ∷ row))) q
begin-row [] table t n cell h = absurd (omega (arith, h))
begin-row (x ∷ []) table t n cell h = absurd (omega (arith, h))
begin-row (x ∷ y ∷ []) table t n cell h = absurd (omega (arith, h))
