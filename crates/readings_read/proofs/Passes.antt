-- The two passes over the pieces of a value. `Checking`: k pieces are of this form, `rest` is to come. `Writing`: `front` is to be
-- put to the front of `old`, `rest` of it is to come at entry j.
-- Assumes nothing.
use Prim.Native.Nat.{ℕ, suc, ◌+◌, ◌≤◌, ◌<◌}
use mathlib.Core.Path.{◌≡◌, refl, ap, sym, ◌∙◌}
use mathlib.Core.List.{List, [], ◌∷◌, ◌++◌}
use native.Mathlib.Omega.{arith}
use native.Mathlib.Nat.{add-zero}
use native.Mathlib.Numerals.{add-one}
use lib.ListN.{length, take, drop, get_or, set, length-set, length-drop}
use lib.Seq.{drop-cons}
use Rattle.grammar.specs.Basics.{over}
use Rattle.text.specs.Pieces.{split_on}
use lib.Seq.{take-suc, take-length, length-take-le, append_snoc, set_at}
use Rattle.readings.specs.Readings.{word_of, words_of, pieces_of}
use Rattle.readings_read.specs.Words.{entry_of, piece_fault, worse, piece_of, entry_at, fault_of}
use Rattle.readings_read.proofs.Words.{worse-known, worse_assoc, form_none, form_more, pieces_some}
use Rattle.std.specs.Result.{result_unwrap_or}
use Rattle.std.specs.Prelude.{Option as Maybe, None, Result, Ok, Err}
use Rattle.readings_read.specs.declared.WordFault.{WordFault}

-- ---- checked

-- 0 for a piece that is no letter
entry-unwrapped : (piece : Result ℕ WordFault) → result_unwrap_or piece 0 ≡ entry_of piece
entry-unwrapped (Ok x) = refl
entry-unwrapped (Err e) = refl

module _ (t count : ℕ) (names : List (List ℕ)) where
  pub record Checking (v : List ℕ) (f : Maybe WordFault) (k : ℕ) (rest : List (List ℕ)) : Type 0 where
    pub formed : fault_of t count names (words_of count (pieces_of v)) ≡ worse f (fault_of t count names (words_of count rest))
    pub counted : length (pieces_of v) ≡ k + length rest

  pub checking_start : (v : List ℕ) → 0 < length v → Checking v None 0 (split_on 32 v)
  checking_start v h = record {
    formed = ap (λ ps. fault_of t count names (words_of count ps)) (pieces_some v h);
    counted = ap length (pieces_some v h) ∙ omega arith;
  }

  -- one piece more
  pub checking_more : (v : List ℕ) (f : Maybe WordFault) (k : ℕ) (now : List (List ℕ)) (p : List ℕ) (ps : List (List ℕ)) (piece : Result ℕ WordFault)
      → now ≡ p ∷ ps → piece ≡ piece_of t count names (word_of count p) → Checking v f k now
      → Checking v (worse f (piece_fault piece)) (k + 1) ps
  checking_more v f k now p ps piece e q c = record {
    formed = c.formed ∙ ap (λ ps. worse f (fault_of t count names (words_of count ps))) e ∙ ap (worse f) (form_more t count names p ps)
        ∙ worse_assoc f (piece_fault (piece_of t count names (word_of count p))) (fault_of t count names (words_of count ps))
        ∙ ap (λ piece. worse (worse f (piece_fault piece)) (fault_of t count names (words_of count ps))) (sym q);
    counted = omega (arith, c.counted, ap length e);
  }

  -- all are checked
  pub checking_form : (v : List ℕ) (f : Maybe WordFault) (k : ℕ) → Checking v f k [] → f ≡ fault_of t count names (words_of count (pieces_of v))
  checking_form v f k c = sym (c.formed ∙ ap (worse f) (form_none t count names) ∙ worse-known f)

  pub checking_count : (v : List ℕ) (f : Maybe WordFault) (k : ℕ) → Checking v f k [] → k ≡ length (pieces_of v)
  checking_count v f k c = sym (c.counted ∙ add-zero k)

  -- the entry of a piece that is read
  pub entry-at : (p : List ℕ) (piece : Result ℕ WordFault) → piece ≡ piece_of t count names (word_of count p)
      → result_unwrap_or piece 0 ≡ entry_at t count names p
  unfolding entry_at
  entry-at p piece e = entry-unwrapped piece ∙ ap entry_of e

-- ---- written

-- a row copied to the front of another
module _ (front old : List ℕ) (i : ℕ) (h : length front ≤ length old) where
  copy_more : i < length front → set (take i front ++ drop i old) i (get_or front i 0) ≡ take (i + 1) front ++ drop (i + 1) old
  copy_more l =
      let m : length (take i front) ≡ i = length-take-le i front (omega arith) in
      ap (λ w. set (take i front ++ w) i (get_or front i 0)) (drop-cons old i 0 (omega arith))
      ∙ set_at (take i front) (get_or old i 0) (drop (suc i) old) (get_or front i 0) i m
      ∙ sym (append_snoc (take i front) (get_or front i 0) (drop (suc i) old))
      ∙ rw add-one (ap (λ w. w ++ drop (suc i) old) (sym (take-suc front i 0 l)))

  copy_all : length front ≤ i → i ≤ length front → take i front ++ drop i old ≡ over front old
  unfolding over
  copy_all l k =
      let m : i ≡ length front = omega arith in
      ap (λ i. take i front ++ drop i old) m ∙ ap (λ w. w ++ drop (length front) old) (take-length front)

pub record Writing (front old : List ℕ) (j : ℕ) (row rest : List ℕ) : Type 0 where
  pub fits : length front ≤ length old
  pub most : j ≤ length front
  pub long : length row ≡ length old
  pub onward : drop j front ≡ rest
  pub written : row ≡ take j front ++ drop j old

pub writing_start : (front old : List ℕ) → length front ≤ length old → Writing front old 0 old front
writing_start front old h = record { fits = h; most = omega arith; long = refl; onward = refl; written = refl }

module _ (front old : List ℕ) (j : ℕ) (row : List ℕ) where
  writing-inside : (now : List ℕ) (x : ℕ) (xs : List ℕ) → now ≡ x ∷ xs → Writing front old j row now → j < length front
  writing-inside now x xs e w = omega (arith, ap length (w.onward ∙ e), length-drop j front)

  -- the next entry has room
  pub writing-room : (now : List ℕ) (x : ℕ) (xs : List ℕ) → now ≡ x ∷ xs → Writing front old j row now → j < length row
  writing-room now x xs e w = omega (arith, writing-inside now x xs e w, w.fits, w.long)

  -- one entry more
  pub writing-put : (now : List ℕ) (x : ℕ) (xs : List ℕ) → now ≡ x ∷ xs → Writing front old j row now
      → Writing front old (j + 1) (set row j x) xs
  writing-put now x xs e w =
      let l = writing-inside now x xs e w in
      let q : get_or front j 0 ∷ drop (suc j) front ≡ x ∷ xs = sym (drop-cons front j 0 l) ∙ w.onward ∙ e in
      let head : x ≡ get_or front j 0 = cc in
      record {
        fits = w.fits;
        most = omega arith;
        long = length-set row j x ∙ w.long;
        onward = rw add-one (let tail : drop (suc j) front ≡ xs = cc in tail);
        written = ap (λ row. set row j x) w.written ∙ ap (set (take j front ++ drop j old) j) head ∙ copy_more front old j w.fits l;
      }

  -- all is written
  pub writing-done : Writing front old j row [] → row ≡ over front old
  writing-done w =
      w.written ∙ copy_all front old j w.fits (omega (arith, ap length w.onward, length-drop j front)) w.most
