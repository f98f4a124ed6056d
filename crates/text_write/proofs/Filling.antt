-- A lent output that is filled from a place on. `text` is what is to be written from place `at` of `out` on; the output is `now`,
-- the next place j, and `rest` is still to come.
-- Assumes nothing.
use Prim.Native.Nat.{ℕ, suc, ◌+◌, ◌≤◌, ◌<◌}
use mathlib.Core.Path.{◌≡◌, refl, ap, sym, subst, ◌∙◌}
use mathlib.Core.List.{List, [], ◌∷◌, ◌++◌, append_assoc, append-nil}
use native.Mathlib.Omega.{arith}
use native.Mathlib.Numerals.{add-one}
use lib.ListN.{length, take, drop, set, length-set, length-append, take-append-drop, length-drop}
use lib.Seq.{take-suc-set, drop-set-lt, length-take-le, drop-drop, take_at, drop_at}
use Rattle.text_write.specs.Clauses.{Wrote}

pub record Filling (at : ℕ) (out text : List ℕ) (j : ℕ) (now rest : List ℕ) : Type 0 where
  pub long : length now ≡ length out
  pub place : j + length rest ≡ at + length text
  pub room : at + length text ≤ length out
  pub front : take j now ++ rest ≡ take at out ++ text
  pub back : drop j now ≡ drop j out

-- nothing is written yet
pub filling_start : (at : ℕ) (out text : List ℕ) → at + length text ≤ length out → Filling at out text at out text
filling_start at out text h = record { long = refl; place = refl; room = h; front = refl; back = refl }

module _ {at : ℕ} {out text : List ℕ} {j : ℕ} {now whole : List ℕ} where
  -- what comes next has room
  pub filling_room : (xs rest : List ℕ) → whole ≡ xs ++ rest → Filling at out text j now whole → j + length xs ≤ length now
  filling_room xs rest e f = omega (arith, f.long, f.place, f.room, ap length e, length-append xs rest)

  -- one byte is written
  pub filling_put : (x : ℕ) (rest : List ℕ) → whole ≡ x ∷ rest → Filling at out text j now whole
      → Filling at out text (j + 1) (set now j x) rest
  filling_put x rest e f =
      let h : j < length now = omega (arith, f.long, f.place, f.room, ap length e) in
      let tails : drop (suc j) now ≡ drop (suc j) out
      = rw (← add-one) (sym (drop-drop 1 j now) ∙ ap (drop 1) f.back ∙ drop-drop 1 j out) in
      record {
        long = length-set now j x ∙ f.long;
        place = omega (arith, f.place, ap length e);
        room = f.room;
        front = rw (add-one, take-suc-set now j x h, append_assoc) (ap (λ r. take j now ++ r) (sym e) ∙ f.front);
        back = rw add-one (drop-set-lt (suc j) now j x (omega arith) ∙ tails);
      }

  -- a run of bytes is written
  pub filling_ran : (xs rest : List ℕ) {j' : ℕ} {now' : List ℕ} → whole ≡ xs ++ rest → Wrote j xs now j' now'
      → Filling at out text j now whole → Filling at out text j' now' rest
  filling_ran xs rest {j'} {now'} e w f =
      let r = filling_room xs rest e f in
      let i = j + length xs in
      let head : length (take j now ++ xs) ≡ i
      = length-append (take j now) xs ∙ ap (λ n. n + length xs) (length-take-le j now (omega arith)) in
      let q : now' ≡ (take j now ++ xs) ++ drop i now = w.row ∙ sym (append_assoc (take j now) xs (drop i now)) in
      subst (λ n. Filling at out text n now' rest) (sym w.place) (record {
        long = omega (arith, f.long, ap length q, length-append (take j now ++ xs) (drop i now), head, length-drop i now);
        place = omega (arith, f.place, ap length e, length-append xs rest);
        room = f.room;
        front = rw (q, take_at (take j now ++ xs) (drop i now) i head, append_assoc)
            (ap (λ r. take j now ++ r) (sym e) ∙ f.front);
        back = rw q (drop_at (take j now ++ xs) (drop i now) i head ∙ sym (drop-drop (length xs) j now)
            ∙ ap (drop (length xs)) f.back ∙ drop-drop (length xs) j out);
      })

  -- all is written
  pub filling_done : whole ≡ [] → Filling at out text j now whole → Wrote at text out j now
  filling_done e f =
      let n : length whole ≡ 0 = ap length e in
      let q : j ≡ at + length text = omega (arith, f.place) in
      let front : take j now ≡ take at out ++ text
      = sym (append-nil (take j now)) ∙ ap (λ r. take j now ++ r) (sym e) ∙ f.front in
      record {
        place = q;
        row = sym (take-append-drop j now) ∙ ap (λ r. take j now ++ r) f.back ∙ ap (λ r. r ++ drop j out) front
            ∙ append_assoc (take at out) text (drop j out) ∙ ap (λ i. take at out ++ (text ++ drop i out)) q;
      }

-- the last run is written
pub filling_last : {at : ℕ} {out text : List ℕ} {j : ℕ} {now rest : List ℕ} {j' : ℕ} {now' : List ℕ} → Wrote j rest now j' now'
    → Filling at out text j now rest → Wrote at text out j' now'
filling_last {rest = rest} w f = filling_done refl (filling_ran rest [] (sym (append-nil rest)) w f)

-- what is still to come has room
pub filling_all : {at : ℕ} {out text : List ℕ} {j : ℕ} {now rest : List ℕ} → Filling at out text j now rest
    → j + length rest ≤ length now
filling_all {rest = rest} f = filling_room rest [] (sym (append-nil rest)) f

-- nothing to write
pub wrote_none : (at : ℕ) (text out : List ℕ) → text ≡ [] → at + length text ≤ length out → Wrote at text out at out
wrote_none at text out e h = filling_done e (filling_start at out text h)

-- the same text in other words
pub wrote_as : {at : ℕ} {text text' out : List ℕ} {n : ℕ} {out' : List ℕ} → text ≡ text' → Wrote at text out n out'
    → Wrote at text' out n out'
wrote_as {at} {out = out} {n} {out'} e w = subst (λ text. Wrote at text out n out') e w
