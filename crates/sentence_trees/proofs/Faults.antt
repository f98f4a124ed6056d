-- The first place at fault of a row, place by place; and the part of the work row that a row uses. Assumes nothing.
use Prim.Native.Nat.{ℕ, zero, suc, ◌+◌, ◌-◌, ◌≤◌, ◌<◌}
use mathlib.Core.Path.{◌≡◌, refl, sym, ap, ap₂, ◌∙◌}
use mathlib.Core.Bool.{Bool, true, false, ◌&&◌}
use mathlib.Core.List.{List, [], ◌∷◌}
use native.Mathlib.Omega.{arith}
use lib.Dec.{leb}
use lib.ListN.{length, get_or, drop, drop_of_length-le}
use lib.Seq.{drop-cons}
use borrow.Author.Tests.{le-leb, lt-leb}
use Rattle.grammar.specs.Basics.{choose}
use Rattle.grammar.specs.TableCheck.{is_terminal}
use Rattle.trees.specs.Trees.{row_fault, max_row}

-- i terminals are passed
abbrev pub Passed : ℕ → List ℕ → ℕ → Type 0
Passed t w i = i + row_fault t (max_row - i) (drop i w) ≡ row_fault t max_row w

pub passed_start : (t : ℕ) (w : List ℕ) → Passed t w 0
passed_start t w = omega arith

module _ (t i : ℕ) (w : List ℕ) where
  abbrev a : ℕ
  a = get_or w i 0

  -- one place is looked at
  one_more : i < max_row → i < length w
      → row_fault t (max_row - i) (drop i w) ≡ choose (leb 1 a && leb a t) (suc (row_fault t (max_row - (i + 1)) (drop (i + 1) w))) 0
  unfolding row_fault
  one_more h g =
      let e : max_row - i ≡ suc (max_row - (i + 1)) = omega arith in
      let n : i + 1 ≡ suc i = omega arith in
      ap₂ (row_fault t) e (drop-cons w i 0 g)
      ∙ ap (λ k. choose (leb 1 a && leb a t) (suc (row_fault t (max_row - (i + 1)) (drop k w))) 0) (sym n)

  -- by its two tests
  by_tests : {x y : Bool} → i < max_row → i < length w → leb 1 a ≡ x → leb a t ≡ y
      → row_fault t (max_row - i) (drop i w) ≡ choose (x && y) (suc (row_fault t (max_row - (i + 1)) (drop (i + 1) w))) 0
  by_tests h g p q =
      one_more h g ∙ ap₂ (λ x y. choose (x && y) (suc (row_fault t (max_row - (i + 1)) (drop (i + 1) w))) 0) p q

  pub passed-more : i < max_row → i < length w → 1 ≤ a → a ≤ t → Passed t w i → Passed t w (i + 1)
  passed-more h g b c p = omega (arith, by_tests h g (le-leb 1 a b) (le-leb a t c), p)

  pub passed-low : i < max_row → i < length w → a < 1 → Passed t w i → i ≡ row_fault t max_row w
  passed-low h g b p = omega (arith, by_tests h g (lt-leb 1 a b) refl, p)

  pub passed-high : i < max_row → i < length w → 1 ≤ a → t < a → Passed t w i → i ≡ row_fault t max_row w
  passed-high h g b c p = omega (arith, by_tests h g (le-leb 1 a b) (lt-leb a t c), p)

  pub passed-full : max_row ≤ i → i ≤ max_row → Passed t w i → i ≡ row_fault t max_row w
  unfolding row_fault
  passed-full h g p =
      let e : max_row - i ≡ 0 = omega arith in
      let z : row_fault t (max_row - i) (drop i w) ≡ 0 = ap (λ k. row_fault t k (drop i w)) e in
      omega (arith, z, p)

none_left : (t m : ℕ) → row_fault t m [] ≡ 0
unfolding row_fault
none_left t zero = refl
none_left t (suc m) = refl

pub passed-end : (t i : ℕ) (w : List ℕ) → length w ≤ i → Passed t w i → i ≡ row_fault t max_row w
passed-end t i w h p =
    let z = ap (row_fault t (max_row - i)) (drop_of_length-le w {i = i} h) ∙ none_left t (max_row - i) in
    omega (arith, z, p)

-- a fault is at most past the last place that may stand
pub fault_most : (t m : ℕ) (w : List ℕ) → row_fault t m w ≤ m
unfolding row_fault
fault_most t zero w = omega arith
fault_most t (suc m) [] = omega arith
fault_most t (suc m) (a ∷ w) = go (is_terminal t a) (fault_most t m w)
  where
    go : (b : Bool) → row_fault t m w ≤ m → choose b (suc (row_fault t m w)) 0 ≤ suc m
    go true h = omega arith
    go false h = omega arith
