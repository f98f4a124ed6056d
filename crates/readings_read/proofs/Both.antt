-- The two lines: what each way through the code says of both.
-- Assumes nothing.
use Prim.Native.Nat.{ℕ, ◌+◌, ◌-◌, ◌≤◌, ◌<◌}
use mathlib.Core.Path.{◌≡◌, refl, ap, subst, ◌∙◌}
use mathlib.Core.Bool.{Bool, true, false}
use mathlib.Core.List.{List, [], ◌∷◌}
use mathlib.Core.Option.{Option, none, some}
use native.Mathlib.Omega.{arith}
use native.Mathlib.Nat.{zero-add}
use lib.Dec.{eqb}
use lib.ListN.{length, drop, length-drop}
use Rattle.grammar.specs.Basics.{choose}
use Rattle.grammar.specs.Limits.{limits}
use Rattle.grammar.specs.Refusal.{Answer, done, refused, and_then, malformed}
use Rattle.grammar.proofs.Answers.{unless_holds, unless_fails, then-goes, then_stops}
use Rattle.grammar.specs.declared.Cause.{Cause}
use Rattle.automaton.specs.Strings.{Letter}
use Rattle.text.specs.Pieces.{onto, split_on}
use Rattle.text.specs.Keys.{value_of}
use Rattle.text.specs.Read.{refuse_none, whole_line}
use Rattle.text.proofs.Pieces.{split_pos}
use Rattle.text.proofs.ReadPrinted.{whole-step}
use Rattle.names.specs.Found.{index, part}
use Rattle.names.proofs.Pieces.{piece_more, piece_last, length_piece}
use Rattle.text_read.proofs.Declarations.{part-part}
use Rattle.readings.specs.Readings.{left_key, right_key, at_end, read_words, read_strings}
use Rattle.readings_read.specs.Lines.{Says, line_of, SaysAt, read_second, FirstSaid, BothSaid}

-- a refusal where there is no value, and then more
none_then : {A B C : Type 0} (c : Cause) (p : ℕ) (o : Option A) (f : A → Answer B) (go : B → Answer C)
    → refuse_none c p o (λ a. and_then (f a) go) ≡ and_then (refuse_none c p o f) go
unfolding refuse_none and_then
none_then c p none f go = refl
none_then c p (some a) f go = refl

-- nothing stands past an end, something before one
end-here : (s : List ℕ) → length s ≡ 0 → at_end (split_on 10 s) ≡ true
unfolding split_on
end-here [] h = refl
end-here (b ∷ s) h = absurd (omega arith)

end_later : (s : List ℕ) → 0 < length s → at_end (split_on 10 s) ≡ false
unfolding split_on
end_later [] h = absurd (omega arith)
end_later (b ∷ s) h = go (eqb b 10) (split_on 10 s) (split_pos 10 s)
  where
    go : (c : Bool) (ps : List (List ℕ)) → 0 < length ps → at_end (choose c ([] ∷ ps) (onto b ps)) ≡ false
    go c [] l = absurd (omega arith)
    go true (p ∷ ps) l = refl
    go false (p ∷ ps) l = refl

module _ (t count : ℕ) (names : List (List ℕ)) where
  -- ---- the first line

  abbrev read_first : List ℕ → List (List ℕ) → Answer (List Letter × List Letter)
  read_first first more =
      refuse_none malformed 1 (value_of left_key first) (λ l.
      and_then (read_words limits t count names 1 l) (λ u. whole_line 2 more (read_second t count names u)))

  strings_whole : (lines : List ℕ) → read_strings limits t count names lines ≡ whole_line 1 (split_on 10 lines) read_first
  unfolding read_strings
  strings_whole lines = refl

  module _ (lines : List ℕ) (e : ℕ) (found : e ≡ 0 + index 10 (drop 0 lines)) where
    pub first-missing : length lines ≤ e → read_strings limits t count names lines ≡ refused malformed 1
    unfolding whole_line
    first-missing h = strings_whole lines ∙ ap (λ ps. whole_line 1 ps read_first) (piece_last 10 lines 0 e (omega arith) found h)

    module _ (inside : e < length lines) where
      first_on : read_strings limits t count names lines
          ≡ and_then (line_of t count names 1 left_key (part 0 e lines)) (λ u. whole_line 2 (split_on 10 (drop (e + 1) lines)) (read_second t count names u))
      unfolding line_of
      first_on =
          strings_whole lines ∙ ap (λ ps. whole_line 1 ps read_first) (piece_more 10 lines 0 e (omega arith) found inside)
          ∙ whole-step 1 (part 0 e lines) (split_on 10 (drop (e + 1) lines)) read_first (split_pos 10 _)
          ∙ none_then malformed 1 (value_of left_key (part 0 e lines)) _ _

      pub first_fault : (c : Cause) (p : ℕ) → line_of t count names 1 left_key (part 0 e lines) ≡ refused c p → read_strings limits t count names lines ≡ refused c p
      first_fault c p q = first_on ∙ then_stops _ _ c p q

      pub first_said : (start k : ℕ) → SaysAt t count names 1 left_key (part 0 e lines) start k → FirstSaid t count names lines start e k
      first_said start k s =
          let l : length (part 0 e lines) ≡ e - 0 = length_piece 10 lines 0 e (omega arith) found in
          let i : start ≤ e = omega (arith, s.inside) in
          let v : part start (length (part 0 e lines)) (part 0 e lines) ≡ part start e lines
          = part-part lines 0 e start (omega arith) (omega arith) ∙ ap (λ m. part m e lines) (zero-add start) in
          record {
            inside = i;
            ends = inside;
            string = s.string;
            says = subst (λ v. Says t count names v s.string k) v s.says;
            onward = first_on ∙ then-goes _ _ s.string s.read;
          }

  -- ---- the second line

  module _ (lines : List ℕ) (a e k : ℕ) (h : FirstSaid t count names lines a e k) (f : ℕ) (found : f ≡ e + 1 + index 10 (drop (e + 1) lines)) where
    pub second-missing : length lines ≤ f → read_strings limits t count names lines ≡ refused malformed 2
    unfolding whole_line
    second-missing l =
        h.onward
        ∙ ap (λ ps. whole_line 2 ps (read_second t count names h.string)) (piece_last 10 lines (e + 1) f (omega (arith, h.ends)) found l)

    module _ (inside : f < length lines) where
      second-on : read_strings limits t count names lines ≡ read_second t count names h.string (part (e + 1) f lines) (split_on 10 (drop (f + 1) lines))
      second-on =
          h.onward
          ∙ ap (λ ps. whole_line 2 ps (read_second t count names h.string)) (piece_more 10 lines (e + 1) f (omega (arith, h.ends)) found inside)
          ∙ whole-step 2 (part (e + 1) f lines) (split_on 10 (drop (f + 1) lines)) (read_second t count names h.string) (split_pos 10 _)

      -- something stands past it
      pub second_past : f + 1 < length lines → read_strings limits t count names lines ≡ refused malformed 2
      second_past l = second-on ∙ unless_fails malformed 2 _ _ (end_later (drop (f + 1) lines) (omega (arith, length-drop (f + 1) lines)))

      module _ (last : length lines ≤ f + 1) where
        second-last : read_strings limits t count names lines ≡ and_then (line_of t count names 2 right_key (part (e + 1) f lines)) (λ v. done (h.string, v))
        unfolding line_of
        second-last = second-on ∙ unless_holds malformed 2 _ _ (end-here (drop (f + 1) lines) (omega (arith, length-drop (f + 1) lines)))
            ∙ none_then malformed 2 (value_of right_key (part (e + 1) f lines)) _ _

        pub second_fault : (c : Cause) (p : ℕ) → line_of t count names 2 right_key (part (e + 1) f lines) ≡ refused c p → read_strings limits t count names lines ≡ refused c p
        second_fault c p q = second-last ∙ then_stops _ _ c p q

        pub second-said : (start l : ℕ) → SaysAt t count names 2 right_key (part (e + 1) f lines) start l → BothSaid t count names lines a e k (e + 1 + start) f l
        second-said start l s =
            let n : length (part (e + 1) f lines) ≡ f - (e + 1) = length_piece 10 lines (e + 1) f (omega (arith, h.ends)) found in
            let i : e + 1 + start ≤ f = omega (arith, s.inside) in
            record {
              first = h.inside;
              first-inside = omega (arith, h.ends);
              second = i;
              second-inside = omega arith;
              left = h.string;
              right = s.string;
              read = second-last ∙ then-goes _ _ s.string s.read;
              left-says = h.says;
              right-says = subst (λ v. Says t count names v s.string l) (part-part lines (e + 1) f start i (omega arith)) s.says;
            }
