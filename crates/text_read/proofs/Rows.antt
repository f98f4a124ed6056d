-- A row that is filled from an entry on, and the starts and lengths of names. What stands in a row past its last entry in use
-- does not count. `Filling`: `whole` is to be put from entry `at` of `old` on, `rest` of it is still to come at entry j.
-- Assumes nothing.
use Prim.Native.Nat.{ℕ, ◌+◌, ◌-◌, ◌≤◌, ◌<◌}
use mathlib.Core.Path.{◌≡◌, refl, ap, sym, ◌∙◌}
use mathlib.Core.List.{List, [], ◌∷◌, ◌++◌, append_assoc, append-nil}
use native.Mathlib.Omega.{arith}
use native.Mathlib.Numerals.{add-one}
use native.Mathlib.Nat.{add-zero}
use lib.ListN.{length, take, drop, set, length-set}
use lib.Seq.{take-suc-set, take-set-lt, length-take-le, set-append_left}
use Rattle.grammar.specs.Basics.{over}
use Rattle.text.specs.Pieces.{split_on}
use Rattle.text.specs.Promise.{starts_from, name_lengths}
use Rattle.names.specs.Found.{index}
use Rattle.names.proofs.Pieces.{piece_more, piece_last, piece_from, length_piece}

pub record Filling (at : ℕ) (old whole : List ℕ) (j : ℕ) (row rest : List ℕ) : Type 0 where
  pub long : length row ≡ length old
  pub front : take j row ++ rest ≡ take at old ++ whole

pub filling_start : {at : ℕ} {old whole rest : List ℕ} → rest ≡ whole → Filling at old whole at old rest
filling_start {at} {old} e = record { long = refl; front = ap (λ r. take at old ++ r) e }

module _ {at : ℕ} {old whole : List ℕ} {j : ℕ} {row : List ℕ} where
  -- one entry more
  pub filling_put : {rest now : List ℕ} (x : ℕ) → j < length row → now ≡ x ∷ rest → Filling at old whole j row now
      → Filling at old whole (j + 1) (set row j x) rest
  filling_put {rest} x h e f = record {
    long = length-set row j x ∙ f.long;
    front = rw (add-one, take-suc-set row j x h, append_assoc) (ap (λ r. take j row ++ r) (sym e) ∙ f.front);
  }

  -- nothing is to come
  pub filling_done : {rest : List ℕ} (m : ℕ) → rest ≡ [] → m ≡ j → Filling at old whole j row rest → take m row ≡ take at old ++ whole
  filling_done m e q f = ap (λ m. take m row) q ∙ sym (append-nil (take j row)) ∙ ap (λ r. take j row ++ r) (sym e) ∙ f.front

-- nothing is put
pub filling_none : (at m : ℕ) (row xs : List ℕ) → xs ≡ [] → m ≡ 0 → take (at + m) row ≡ take at row ++ xs
filling_none at m row xs e q = rw (e, q, add-zero, append-nil)

-- ---- starts and lengths of the names of a value, which stands at `base` of the text

module _ (s : List ℕ) (a e : ℕ) (le : a ≤ length s) (found : e ≡ a + index 44 (drop a s)) where
  pub starts_more : (base : ℕ) → e < length s
      → starts_from (base + a) (split_on 44 (drop a s)) ≡ (base + a) ∷ starts_from (base + (e + 1)) (split_on 44 (drop (e + 1) s))
  unfolding starts_from
  starts_more base h =
      let m : base + a + (e - a) + 1 ≡ base + (e + 1) = omega (arith, piece_from 44 s a e le found) in
      ap (starts_from (base + a)) (piece_more 44 s a e le found h) ∙ rw (length_piece 44 s a e le found, m)

  pub starts-last : (base : ℕ) → length s ≤ e → starts_from (base + a) (split_on 44 (drop a s)) ≡ (base + a) ∷ []
  unfolding starts_from
  starts-last base h = ap (starts_from (base + a)) (piece_last 44 s a e le found h)

  pub lengths-more : e < length s → name_lengths (split_on 44 (drop a s)) ≡ (e - a) ∷ name_lengths (split_on 44 (drop (e + 1) s))
  unfolding name_lengths
  lengths-more h = ap name_lengths (piece_more 44 s a e le found h) ∙ rw (length_piece 44 s a e le found)

  pub lengths-last : length s ≤ e → name_lengths (split_on 44 (drop a s)) ≡ (e - a) ∷ []
  unfolding name_lengths
  lengths-last h = ap name_lengths (piece_last 44 s a e le found h) ∙ rw (length_piece 44 s a e le found)

pub starts_none : (at : ℕ) → starts_from at [] ≡ []
unfolding starts_from
starts_none at = refl

pub lengths_none : name_lengths [] ≡ []
unfolding name_lengths
lengths_none = refl

-- ---- two runs, and two entries

-- the second run after the first
pub second_run : (t m k : ℕ) (row row' xs ys : List ℕ) → t ≡ m → take (0 + m) row ≡ xs → take (t + k) row' ≡ take t row ++ ys
    → take (t + k) row' ≡ xs ++ ys
second_run t m k row row' xs ys e h q =
    let z : t ≡ 0 + m = omega arith in
    q ∙ ap (λ w. w ++ ys) (ap (λ m. take m row) z ∙ h)

-- two entries put one after the other
pub two_put : (row : List ℕ) (at x y : ℕ) → at + 1 < length row → take (at + 2) (set (set row at x) (at + 1) y) ≡ take at row ++ (x ∷ y ∷ [])
two_put row at x y h =
    let q : at + 2 ≡ at + 1 + 1 = omega arith in
    filling_done (at + 2) refl q
    (filling_put y (omega (arith, length-set row at x)) refl (filling_put x (omega arith) refl (filling_start {at = at} {old = row} {whole = x ∷ y ∷ []} refl)))

-- and the same where a run after them is there already
pub run-before : (row row' : List ℕ) (at x y m : ℕ) (xs : List ℕ) → at + 1 < length row → length row' ≡ length row
    → take (at + 2 + m) row' ≡ take (at + 2) row ++ xs
    → take (at + 2 + m) (set (set row' at x) (at + 1) y) ≡ take at row ++ (x ∷ y ∷ xs)
run-before row row' at x y m xs h l q =
    let n : length (take (at + 2) row) ≡ at + 2 = length-take-le (at + 2) row (omega arith) in
    take-set-lt (at + 2 + m) (set row' at x) (at + 1) y (omega arith)
    ∙ ap (λ w. set w (at + 1) y) (take-set-lt (at + 2 + m) row' at x (omega arith) ∙ ap (λ w. set w at x) q
    ∙ set-append_left (take (at + 2) row) xs at x (omega (arith, n)))
    ∙ set-append_left (set (take (at + 2) row) at x) xs (at + 1) y (omega (arith, n, length-set (take (at + 2) row) at x))
    ∙ ap (λ w. w ++ xs) (ap (λ w. set w (at + 1) y) (sym (take-set-lt (at + 2) row at x (omega arith)))
    ∙ sym (take-set-lt (at + 2) (set row at x) (at + 1) y (omega arith)) ∙ two_put row at x y h)
    ∙ append_assoc (take at row) (x ∷ y ∷ []) xs

-- ---- a row copied to the front of another

pub copied : (front part old : List ℕ) (n : ℕ) → part ≡ front → n ≡ length front → part ++ drop n old ≡ over front old
unfolding over
copied front part old n e h = rw (e, h)
