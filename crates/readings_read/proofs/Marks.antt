-- The number of a rule, digit by digit: what each way through the code says of the definition. `mark_from x s` is what digits that
-- follow those of x make.
-- Assumes nothing.
use Prim.Native.Nat.{ℕ, ◌+◌, ◌-◌, ◌*◌, ◌≤◌, ◌<◌}
use mathlib.Core.Path.{◌≡◌, refl, ap, ◌∙◌}
use mathlib.Core.Bool.{Bool, true, false, ◌&&◌, ◌||◌}
use mathlib.Core.List.{List, [], ◌∷◌}
use native.Mathlib.Omega.{arith}
use native.Mathlib.Nat.{add-zero}
use native.Mathlib.Numerals.{add-one}
use borrow.Author.Tests.{ne_eqb, le-leb, lt-leb}
use lib.Dec.{eqb, leb}
use lib.ListN.{length, drop, get_or, drop_of_length-le}
use lib.Seq.{drop-cons}
use Rattle.grammar.specs.Basics.{choose}
use Rattle.grammar.proofs.Answers.{and_false}
use Rattle.text.specs.Names.{all}
use Rattle.text.specs.Numbers.{number_from, is_digit, is_decimal}
use Rattle.text.proofs.Names.{both-within}
use Rattle.readings.specs.Letters.{kind_unit}
use Rattle.readings_read.specs.Words.{mark_piece}
use Rattle.std.specs.Prelude.{Result, Ok, Err}
use Rattle.readings_read.specs.declared.WordFault.{WordFault}
use Rattle.readings_read.specs.declared.WordFault.TheVariants.{Malformed}

-- more digits never say less
number_grows : (x : ℕ) (s : List ℕ) → x ≤ number_from x s
unfolding number_from
number_grows x [] = omega arith
number_grows x (b ∷ s) = omega (arith, number_grows (x * 10 + (b - 48)) s)

module _ (kind count : ℕ) where
  unfoldable pub mark_from : ℕ → List ℕ → Result ℕ WordFault
  mark_from x s = choose (all is_digit s && leb (number_from x s) count) (Ok (kind * kind_unit + number_from x s)) (Err Malformed)

  -- no digits
  pub mark-none : (s : List ℕ) → length s ≡ 0 → mark_piece kind count s ≡ Err Malformed
  unfolding mark_piece is_decimal
  mark-none [] h = refl
  mark-none (b ∷ s) h = absurd (omega arith)

  -- 0 alone is the number 0
  pub mark-zero : (s : List ℕ) → length s ≡ 1 → get_or s 0 0 ≡ 48 → mark_piece kind count s ≡ Ok (kind * kind_unit)
  unfolding mark_piece is_decimal number_from all
  mark-zero [] h e = absurd (omega arith)
  mark-zero (b ∷ []) h e = rw (e, le-leb 0 count (omega arith)) (ap (λ (n : ℕ). Ok n) (add-zero (kind * kind_unit)))
  mark-zero (b ∷ c ∷ s) h e = absurd (omega arith)

  -- 0 before other digits is no number
  pub mark-led : (s : List ℕ) → 1 < length s → get_or s 0 0 ≡ 48 → mark_piece kind count s ≡ Err Malformed
  unfolding mark_piece is_decimal
  mark-led [] h e = absurd (omega arith)
  mark-led (b ∷ s) h e =
      let z : eqb (length s) 0 ≡ false = ne_eqb (length s) 0 (λ q. omega arith) in
      rw (z, e, and_false (all is_digit (48 ∷ s))) refl

  -- any other digits are read one by one
  pub mark-start : (s : List ℕ) → 0 < length s → (get_or s 0 0 ≡ 48 → ⊥) → mark_piece kind count s ≡ mark_from 0 s
  unfolding mark_piece mark_from is_decimal
  mark-start [] h n = absurd (omega arith)
  mark-start (b ∷ s) h n = rw (ne_eqb b 48 n) (go (eqb (length s) 0) (all is_digit (b ∷ s)))
    where
      go : (z d : Bool)
          → choose (d && (z || true) && leb (number_from 0 (b ∷ s)) count) (Ok (kind * kind_unit + number_from 0 (b ∷ s))) (Err Malformed)
          ≡ choose (d && leb (number_from 0 (b ∷ s)) count) (Ok (kind * kind_unit + number_from 0 (b ∷ s))) (Err Malformed)
      go true true = refl
      go true false = refl
      go false true = refl
      go false false = refl

  -- all are read
  pub mark-end : (x : ℕ) (s : List ℕ) (i : ℕ) → length s ≤ i → x ≤ count → mark_from x (drop i s) ≡ Ok (kind * kind_unit + x)
  unfolding mark_from number_from all
  mark-end x s i h l = rw (drop_of_length-le s, le-leb x count l) refl

  module _ (x : ℕ) (s : List ℕ) (i : ℕ) (inside : i < length s) where
    mark-at : mark_from x (drop i s) ≡ mark_from x (get_or s i 0 ∷ drop (i + 1) s)
    mark-at = rw (add-one, drop-cons s i 0)

    mark-other : is_digit (get_or s i 0) ≡ false → mark_from x (drop i s) ≡ Err Malformed
    unfolding mark_from all
    mark-other e = mark-at ∙ rw e refl

    -- a byte below 0
    pub mark-low : get_or s i 0 < 48 → mark_from x (drop i s) ≡ Err Malformed
    mark-low h = mark-other (rw (lt-leb 48 (get_or s i 0) h) refl)

    -- a byte above 9
    pub mark-high : 57 < get_or s i 0 → mark_from x (drop i s) ≡ Err Malformed
    mark-high h = mark-other (rw (lt-leb (get_or s i 0) 57 h) (and_false (leb 48 (get_or s i 0))))

    module _ (low : 48 ≤ get_or s i 0) (high : get_or s i 0 ≤ 57) where
      -- one digit more
      pub mark-more : mark_from x (drop i s) ≡ mark_from (x * 10 + (get_or s i 0 - 48)) (drop (i + 1) s)
      unfolding mark_from number_from all
      mark-more = mark-at ∙ rw (both-within 48 57 (get_or s i 0) low high) refl

      -- a number that the grammar lacks, whatever follows
      pub mark_big : count < x * 10 + (get_or s i 0 - 48) → mark_from x (drop i s) ≡ Err Malformed
      unfolding mark_from
      mark_big h =
          let y = x * 10 + (get_or s i 0 - 48) in
          mark-more ∙ rw (lt-leb (number_from y (drop (i + 1) s)) count (omega (arith, number_grows y (drop (i + 1) s))), and_false (all is_digit (drop (i + 1) s))) refl
