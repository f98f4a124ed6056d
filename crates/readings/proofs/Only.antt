-- Nothing but the two lines of two strings says these strings, in whatever case: lines that are read, each name in its declared
-- spelling, are the lines printed of what they say. Assumes nothing.
use Prim.Native.Nat.{ℕ, ◌<◌}
use mathlib.Core.Path.{◌≡◌, refl, sym, ap, ap₂, ◌∙◌}
use mathlib.Core.Bool.{Bool, true, false, ◌&&◌}
use mathlib.Core.List.{List, [], ◌∷◌, ◌++◌, map}
use mathlib.Core.Option.{Option, none, some}
use lib.Dec.{eqb, leb}
use lib.ListN.{length}
use borrow.Author.Tests.{eqb-true}
use Rattle.grammar.specs.Basics.{choose}
use Rattle.grammar.specs.Limits.{Limits}
use Rattle.grammar.specs.Grammar.{start}
use Rattle.grammar.specs.Refusal.{done, malformed, name_unknown}
use Rattle.grammar.proofs.Answers.{and_both, and_false, no_bool, done_inj, unless_done}
use Rattle.automaton.specs.Strings.{Letter, opening, closing}
use Rattle.text.specs.Pieces.{line_end, space, equals, led_by, join, ended_by}
use Rattle.text.specs.Names.{within, all, is_name_byte, is_name}
use Rattle.text.specs.Numbers.{decimal, number_from, is_decimal}
use Rattle.text.specs.Spelling.{spelling}
use Rattle.text.proofs.Pieces.{all_head, all_tail}
use Rattle.text.proofs.Names.{no_value, some_inj, known-name}
use Rattle.text.proofs.Numbers.{decimal_number}
use Rattle.text.proofs.PrintRead.{none_done}
use Rattle.readings.specs.Readings.{opens, closes, left_key, right_key, word, words, reading_lines, Word, bracket, name, rule_number, word_of, joined, words_of, pieces_of, at_end, known_word, letter_of, read_words, read_strings}
use Rattle.readings.specs.Spelling.{spelled_word, or_reading, spelled_pair, spelled_readings}
use Rattle.readings.proofs.Said.{two_lines}

-- where nothing stands past the last line, an empty piece is left
end-only : (ps : List (List ℕ)) → at_end ps ≡ true → ps ≡ [] ∷ []
end-only [] e = no_bool (sym e)
end-only ([] ∷ []) e = refl
end-only ([] ∷ p ∷ ps) e = no_bool (sym e)
end-only ((b ∷ s) ∷ ps) e = no_bool (sym e)

-- a word that begins with a byte of no name stays
bracket-stays : (names : List (List ℕ)) (b c : ℕ) (s : List ℕ) → eqb b c ≡ true → is_name_byte c ≡ false
    → spelled_word names (b ∷ s) ≡ b ∷ s
unfolding spelled_word is_name all
bracket-stays names b c s e h = rw (ap is_name_byte (eqb-true b c e) ∙ h, and_false (within 1 15 (length (b ∷ s)))) refl

no_opens : is_name_byte opens ≡ false
unfolding is_name_byte
no_opens = refl

no_closes : is_name_byte closes ≡ false
unfolding is_name_byte
no_closes = refl

module _ (L : Limits) (t count : ℕ) (names : List (List ℕ)) (apart : t < start L) where
  -- what is printed of what is read of a word, and of words
  abbrev again : Word → List ℕ
  again w = word L t names (letter_of L t count names w)

  abbrev all_again : List Word → List (List ℕ)
  all_again ws = map (word L t names) (map (letter_of L t count names) ws)

  -- a rule's number is read in decimal without leading zeros alone
  rule-only : (b : ℕ) (kind : ℕ → Letter) → ((i : ℕ) → word L t names (kind i) ≡ b ∷ decimal i) → (s : List ℕ) (w : Word)
      → rule_number count kind s ≡ some w → again w ≡ b ∷ s
  unfolding rule_number
  rule-only b kind h s w e = go (is_decimal s && leb (number_from 0 s) count) refl e
    where
      go : (c : Bool) → is_decimal s && leb (number_from 0 s) count ≡ c → choose c (some (bracket (kind (number_from 0 s)))) none ≡ some w
          → again w ≡ b ∷ s
      go true c f =
          sym (ap again (some_inj f)) ∙ h (number_from 0 s)
          ∙ ap (λ (d : List ℕ). b ∷ d) (decimal_number s (and_both (is_decimal s) (leb (number_from 0 s) count) c).0)
      go false c f = no_value f

  -- a word is read as what its declared spelling is the print of
  word-only : (s : List ℕ) (w : Word) → word_of count s ≡ some w → known_word L t count names w ≡ true
      → again w ≡ spelled_word names s
  unfolding word_of spelled_word
  word-only [] w e k = no_value e
  word-only (b ∷ s) w e k = go (eqb b opens) (eqb b closes) (is_name (b ∷ s)) refl refl refl e
    where
      go : (x y z : Bool) → eqb b opens ≡ x → eqb b closes ≡ y → is_name (b ∷ s) ≡ z
          → choose x (rule_number count (λ i. opening i) s)
          (choose y (rule_number count (λ i. closing i) s) (choose z (some (name (b ∷ s))) none)) ≡ some w
          → again w ≡ spelled_word names (b ∷ s)
      go true y z p q r f =
          rule-only b (λ i. opening i) (λ i. ap (λ (c : ℕ). c ∷ decimal i) (sym (eqb-true b opens p))) s w f
          ∙ sym (bracket-stays names b opens s p no_opens)
      go false true z p q r f =
          rule-only b (λ i. closing i) (λ i. ap (λ (c : ℕ). c ∷ decimal i) (sym (eqb-true b closes q))) s w f
          ∙ sym (bracket-stays names b closes s q no_closes)
      go false false true p q r f =
          let i : name (b ∷ s) ≡ w = some_inj f in
          sym (ap again i) ∙ known-name L t 0 names (b ∷ s) apart (ap (known_word L t count names) i ∙ k)
          ∙ ap (λ (z : Bool). choose z (spelling names (b ∷ s)) (b ∷ s)) (sym r)
      go false false false p q r f = no_value f

  words-only : (ps : List (List ℕ)) (ws : List Word) → words_of count ps ≡ some ws → all (known_word L t count names) ws ≡ true
      → all_again ws ≡ map (spelled_word names) ps
  unfolding words_of
  words-only [] ws e k = sym (ap all_again (some_inj e))
  words-only (p ∷ ps) ws e k = go (word_of count p) (words_of count ps) refl (words-only ps) e
    where
      go : (o : Option Word) (q : Option (List Word)) → word_of count p ≡ o
          → ((vs : List Word) → q ≡ some vs → all (known_word L t count names) vs ≡ true
          → all_again vs ≡ map (spelled_word names) ps)
          → joined o q ≡ some ws → all_again ws ≡ map (spelled_word names) (p ∷ ps)
      go none q a b f = no_value f
      go (some w) none a b f = no_value f
      go (some w) (some vs) a b f =
          let i : w ∷ vs ≡ ws = some_inj f in
          let h : all (known_word L t count names) (w ∷ vs) ≡ true = ap (all (known_word L t count names)) i ∙ k in
          sym (ap all_again i)
          ∙ ap₂ (λ (x : List ℕ) (xs : List (List ℕ)). x ∷ xs) (word-only p w a (all_head (known_word L t count names) w vs h))
          (b vs refl (all_tail (known_word L t count names) w vs h))

  -- the words of what a value says are those of the value in declared spelling
  value-only : (at : ℕ) (value : List ℕ) (u : List Letter) → read_words L t count names at value ≡ done u
      → words L t names u ≡ join space (map (spelled_word names) (pieces_of value))
  unfolding read_words words
  value-only at value u e =
      let a = none_done malformed at (words_of count (pieces_of value)) _ u e in
      let ws = a.0 in
      let b = unless_done name_unknown at (all (known_word L t count names) ws) (done (map (letter_of L t count names) ws)) u a.2 in
      ap (λ (u : List Letter). join space (map (word L t names) u)) (sym (done_inj b.1))
      ∙ ap (join space) (words-only (pieces_of value) ws a.1 b.0)

  -- the lines of what lines say are these lines in declared spelling
  pub lines-only : (lines : List ℕ) (u v : List Letter) → read_strings L t count names lines ≡ done (u, v)
      → reading_lines L t names u v ≡ spelled_readings names lines
  unfolding reading_lines spelled_readings join led_by ended_by
  lines-only lines u v e =
      let r = two_lines L t count names lines u v e in
      let cut = r.cut ∙ ap (λ (ps : List (List ℕ)). r.first ∷ r.second ∷ ps) (end-only r.rest r.ends) in
      sym (ap (λ (ps : List (List ℕ)). join line_end (spelled_pair names ps)) cut
      ∙ ap₂ (λ (p q : List ℕ). p ++ line_end ∷ (q ++ line_end ∷ []))
      (ap (or_reading r.first names left_key) r.left-value
      ∙ ap (λ (w : List ℕ). left_key ++ equals ∷ w) (sym (value-only 1 r.left u r.left-read)))
      (ap (or_reading r.second names right_key) r.right-value
      ∙ ap (λ (w : List ℕ). right_key ++ equals ∷ w) (sym (value-only 2 r.right v r.right-read))))
