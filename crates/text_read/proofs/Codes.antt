-- The names of a right side, looked up one after the other, and their codes, put into a row as far as it goes.
-- Assumes nothing.
use Prim.Native.Nat.{ℕ, ◌+◌, ◌≤◌, ◌<◌}
use mathlib.Core.Path.{◌≡◌, refl, ap, sym, subst, ◌∙◌}
use mathlib.Core.List.{List, [], ◌∷◌, ◌++◌}
use mathlib.Core.Bool.{Bool, true, false}
use native.Mathlib.Omega.{arith}
use lib.ListN.{length, take, drop, get_or, set, length-set}
use lib.Seq.{take-set-le, take-take}
use Rattle.grammar.specs.Limits.{limits}
use Rattle.grammar.proofs.Answers.{no_bool}
use Rattle.text.specs.Pieces.{split_on}
use Rattle.text.specs.Names.{all, same_name, place}
use Rattle.text.specs.Read.{is_known, code_of}
use Rattle.text.proofs.Pieces.{all_none}
use Rattle.text_read.specs.Lines.{codes_of, CodesTaken}
use Rattle.text_read.proofs.Rows.{Filling, filling_start, filling_put, filling_done, filling_none, run-before}
use Rattle.text_read.proofs.Lookups.{known_in, known_out, all_yes, all_no, codes-more, codes-none}
use Rattle.text_read.proofs.Shapes.{split-led, empty-body}

module _ (t : ℕ) (names body : List (List ℕ)) (at : ℕ) (old : List ℕ) where
  -- `rest` of the body is still to be looked up, and its first code belongs at entry j
  pub record Looking (j : ℕ) (row : List ℕ) (rest : List (List ℕ)) : Type 0 where
    pub known : all (is_known 0 names) body ≡ all (is_known 0 names) rest
    pub long : length row ≡ length old
    pub low : at ≤ j
    pub ahead : j + length rest ≡ at + length body
    pub front : take at row ≡ take at old
    pub filled : at + length body ≤ length old → Filling at old (codes_of t names body) j row (codes_of t names rest)

  pub looking_start : Looking at old body
  looking_start = record { known = refl; long = refl; low = omega arith; ahead = refl; front = refl; filled = λ h. filling_start refl }

  module _ (j : ℕ) (row : List ℕ) (rest : List (List ℕ)) (h : Looking j row rest) where
    module _ (x : List ℕ) (xs : List (List ℕ)) (q : rest ≡ x ∷ xs) (i : ℕ) (found : i ≡ place (same_name x) names) where
      -- the next name is unknown
      pub looking_unknown : length names ≤ i → CodesTaken t names body at old row false
      looking_unknown l = record {
        answer = sym (h.known ∙ ap (all (is_known 0 names)) q ∙ all_no (is_known 0 names) x xs (known_out 0 names x i found (omega arith) l));
        front = h.front;
        codes = λ e. no_bool (sym e);
      }

      -- it is known, and its code is put
      pub looking_more : i < length names → (c : ℕ) → c ≡ code_of limits t i → (row' : List ℕ) → row' ≡ set row j c → Looking (j + 1) row' xs
      looking_more l c e row' g =
          let n : length rest ≡ length (x ∷ xs) = ap length q in
          subst (λ (w : List ℕ). Looking (j + 1) w xs) (sym g)
          (record {
            known = h.known ∙ ap (all (is_known 0 names)) q ∙ all_yes (is_known 0 names) x xs (known_in 0 names x i found (omega arith) l);
            long = length-set row j c ∙ h.long;
            low = omega (arith, h.low);
            ahead = omega (arith, h.ahead, n);
            front = take-set-le at row j c h.low ∙ h.front;
            filled = λ m. filling_put c (omega (arith, h.ahead, h.long, n, m))
                (ap (codes_of t names) q ∙ codes-more t names x xs i found ∙ ap (λ w. w ∷ codes_of t names xs) (sym e)) (h.filled m);
          })

    -- none is left
    pub looking_all : rest ≡ [] → CodesTaken t names body at old row true
    looking_all q = record {
      answer = sym (h.known ∙ ap (all (is_known 0 names)) q ∙ all_none (is_known 0 names));
      front = h.front;
      codes = λ e m. filling_done (at + length body) (ap (codes_of t names) q ∙ codes-none t names) (omega (arith, h.ahead, ap length q)) (h.filled m);
    }

module _ (t : ℕ) (names : List (List ℕ)) (r : List ℕ) (at : ℕ) where
  -- nothing follows the colon
  pub taken_none : (row : List ℕ) → length r ≡ 0 → CodesTaken t names (drop 1 (split_on 32 r)) at row row true
  taken_none row l =
      let q = empty-body 32 r l in
      record {
        answer = sym (ap (all (is_known 0 names)) q ∙ all_none (is_known 0 names));
        front = refl;
        codes = λ e m. filling_none at (length (drop 1 (split_on 32 r))) row (codes_of t names (drop 1 (split_on 32 r))) (ap (codes_of t names) q ∙ codes-none t names) (ap length q);
      }

  -- a space does: the names are the pieces after it
  pub taken-led : (row row' : List ℕ) (b : Bool) → 0 < length r → get_or r 0 0 ≡ 32 → CodesTaken t names (split_on 32 (drop 1 r)) at row row' b
      → CodesTaken t names (drop 1 (split_on 32 r)) at row row' b
  taken-led row row' b l e h = subst (λ (ps : List (List ℕ)). CodesTaken t names (drop 1 ps) at row row' b) (sym (split-led 32 r l e)) h

-- what is told of the codes past the two entries that are put before them
module _ (t : ℕ) (names body : List (List ℕ)) (end : ℕ) (row mid : List ℕ) (b : Bool) (h : CodesTaken t names body (end + 2) row mid b) where
  pub taken-front : take end mid ≡ take end row
  taken-front = sym (take-take end (end + 2) mid (omega arith)) ∙ ap (take end) h.front ∙ take-take end (end + 2) row (omega arith)

  pub taken-entries : (left count x : ℕ) → b ≡ true → x ≡ code_of limits t left → count ≡ length body → length mid ≡ length row → end + 2 + count ≤ length row
      → take (end + 2 + count) (set (set mid end x) (end + 1) count) ≡ take end row ++ (code_of limits t left ∷ count ∷ codes_of t names body)
  taken-entries left count x k e n l room =
      let q : take (end + 2 + count) mid ≡ take (end + 2) row ++ codes_of t names body
      = ap (λ (m : ℕ). take (end + 2 + m) mid) n ∙ h.codes k (omega (arith, room, n)) in
      run-before row mid end x count count (codes_of t names body) (omega (arith, room)) l q
      ∙ ap (λ w. take end row ++ (w ∷ count ∷ codes_of t names body)) e
