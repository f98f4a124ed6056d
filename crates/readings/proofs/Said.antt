-- What lines say is strings of the grammar's letters; and what lines are that say two strings. Assumes nothing.
use Prim.Native.Nat.{ℕ, ◌+◌, ◌≤◌, ◌<◌}
use mathlib.Core.Path.{◌≡◌, refl, ap, subst, ◌∙◌}
use mathlib.Core.Bool.{Bool, true, false, ◌&&◌}
use mathlib.Core.List.{List, [], ◌∷◌, map}
use mathlib.Core.Option.{Option, none, some}
use native.Mathlib.Omega.{arith}
use borrow.Author.Tests.{leb-true}
use lib.Dec.{eqb, leb}
use lib.ListN.{length}
use Rattle.grammar.specs.Basics.{choose}
use Rattle.grammar.specs.Limits.{Limits}
use Rattle.grammar.specs.Grammar.{start}
use Rattle.grammar.specs.Refusal.{done, malformed, name_unknown}
use Rattle.grammar.proofs.Answers.{and_both, done_inj, unless_done, then-done}
use Rattle.automaton.specs.Strings.{Letter, opening, closing}
use Rattle.text.specs.Pieces.{line_end, split_on}
use Rattle.text.specs.Names.{all, is_name}
use Rattle.text.specs.Numbers.{number_from, is_decimal}
use Rattle.text.specs.Keys.{value_of}
use Rattle.text.specs.Read.{number_of}
use Rattle.text.proofs.Names.{known_number, code-right}
use Rattle.text.proofs.Pieces.{all_head, all_tail}
use Rattle.text.proofs.PrintRead.{none_done, whole-done}
use Rattle.readings.specs.Readings.{left_key, right_key, Valid, AllValid, Word, bracket, name, rule_number, word_of, joined, words_of, pieces_of, at_end, known_word, letter_of, read_words, read_strings}

-- an option that is there
some_is : {A : Type 0} (d : A) (a b : A) → ◌≡◌ {A = Option A} (some a) (some b) → a ≡ b
some_is {A} d a b e = ap (λ (o : Option A). get o) e
  where
    get : Option A → A
    get none = d
    get (some a) = a

not_there : {A X : Type 0} {a : A} → ◌≡◌ {A = Option A} none (some a) → X
not_there {A} e = absurd (subst (λ (o : Option A). is o) e tt)
  where
    is : Option A → Type 0
    is none = Unit {0}
    is (some a) = ⊥

module _ (L : Limits) (t count : ℕ) (names : List (List ℕ)) where
  -- what is known of lines that are read as two strings
  pub record TwoLines (lines : List ℕ) (u v : List Letter) : Type 0 where
    pub first : List ℕ
    pub second : List ℕ
    pub rest : List (List ℕ)
    pub cut : split_on line_end lines ≡ first ∷ second ∷ rest
    pub ends : at_end rest ≡ true
    pub left : List ℕ
    pub right : List ℕ
    pub left-value : value_of left_key first ≡ some left
    pub right-value : value_of right_key second ≡ some right
    pub left-read : read_words L t count names 1 left ≡ done u
    pub right-read : read_words L t count names 2 right ≡ done v

  pub two_lines : (lines : List ℕ) (u v : List Letter) → read_strings L t count names lines ≡ done (u, v) → TwoLines lines u v
  unfolding read_strings
  two_lines lines u v e =
      let a = whole-done 1 _ _ (u, v) e in
      let b = none_done malformed 1 _ _ (u, v) a.4 in
      let c = then-done _ _ (u, v) b.2 in
      let d = whole-done 2 _ _ (u, v) c.2 in
      let f = unless_done malformed 2 _ _ (u, v) d.4 in
      let g = none_done malformed 2 _ _ (u, v) f.1 in
      let h = then-done _ _ (u, v) g.2 in
      let q : ◌≡◌ {A = List Letter × List Letter} (c.0, h.0) (u, v) = done_inj h.2 in
      record {
        first = a.0;
        second = d.0;
        rest = d.1 ∷ d.2;
        cut = a.3 ∙ ap (λ (ps : List (List ℕ)). a.0 ∷ ps) d.3;
        ends = f.0;
        left = b.0;
        right = g.0;
        left-value = b.1;
        right-value = g.1;
        left-read = c.1 ∙ ap (λ (p : List Letter × List Letter). done p.0) q;
        right-read = h.1 ∙ ap (λ (p : List Letter × List Letter). done p.1) q;
      }

module _ (L : Limits) (t n count : ℕ) (names : List (List ℕ)) (apart : t < start L) (many : length names ≡ t + n) where
  -- the opening or closing that a word is; a name is none
  abbrev Right : Word → Type 0
  Right (bracket l) = Valid L t n count l
  Right (name x) = Unit {0}

  abbrev AllRight : List Word → Type 0
  AllRight [] = Unit {0}
  AllRight (w ∷ ws) = Right w × AllRight ws

  rule-right : (kind : ℕ → Letter) → ((i : ℕ) → i ≤ count → Valid L t n count (kind i)) → (s : List ℕ) (w : Word)
      → rule_number count kind s ≡ some w → Right w
  unfolding rule_number
  rule-right kind h s w e = go (is_decimal s && leb (number_from 0 s) count) refl e
    where
      go : (b : Bool) → is_decimal s && leb (number_from 0 s) count ≡ b → choose b (some (bracket (kind (number_from 0 s)))) none ≡ some w → Right w
      go true c f = subst Right (some_is w (bracket (kind (number_from 0 s))) w f)
          (h (number_from 0 s) (leb-true (number_from 0 s) count (and_both (is_decimal s) (leb (number_from 0 s) count) c).1))
      go false c f = not_there f

  word-right : (s : List ℕ) (w : Word) → word_of count s ≡ some w → Right w
  unfolding word_of
  word-right [] w e = not_there e
  word-right (b ∷ s) w e = go (eqb b 40) (eqb b 41) (is_name (b ∷ s)) e
    where
      go : (x y z : Bool)
          → choose x (rule_number count (λ i. opening i) s)
          (choose y (rule_number count (λ i. closing i) s) (choose z (some (name (b ∷ s))) none)) ≡ some w → Right w
      go true y z f = rule-right (λ i. opening i) (λ i h. h) s w f
      go false true z f = rule-right (λ i. closing i) (λ i h. h) s w f
      go false false true f = subst Right (some_is w (name (b ∷ s)) w f) tt
      go false false false f = not_there f

  words_right : (ps : List (List ℕ)) (ws : List Word) → words_of count ps ≡ some ws → AllRight ws
  unfolding words_of
  words_right [] ws e = subst AllRight (some_is [] [] ws e) tt
  words_right (p ∷ ps) ws e = go (word_of count p) (words_of count ps) refl (λ vs q. words_right ps vs q) e
    where
      go : (o : Option Word) (q : Option (List Word)) → word_of count p ≡ o → ((vs : List Word) → q ≡ some vs → AllRight vs) → joined o q ≡ some ws → AllRight ws
      go none q a b f = not_there f
      go (some w) none a b f = not_there f
      go (some w) (some vs) a b f = subst AllRight (some_is [] (w ∷ vs) ws f) (word-right p w a, b vs refl)

  -- a known word is a letter of the grammar
  letter_right : (w : Word) → Right w → known_word L t count names w ≡ true → Valid L t n count (letter_of L t count names w)
  letter_right (bracket l) r k = r
  letter_right (name x) r k = code-right L t apart n (number_of names x) (omega (arith, (known_number 0 names x k).1, many))

  letters-right : (ws : List Word) → AllRight ws → all (known_word L t count names) ws ≡ true → AllValid L t n count (map (letter_of L t count names) ws)
  letters-right [] r k = tt
  letters-right (w ∷ ws) r k = (
    letter_right w r.0 (all_head (known_word L t count names) w ws k),
    letters-right ws r.1 (all_tail (known_word L t count names) w ws k),
  )

  value-right : (at : ℕ) (value : List ℕ) (u : List Letter) → read_words L t count names at value ≡ done u → AllValid L t n count u
  unfolding read_words
  value-right at value u e =
      let a = none_done malformed at (words_of count (pieces_of value)) _ u e in
      let ws = a.0 in
      let b = unless_done name_unknown at (all (known_word L t count names) ws) (done (map (letter_of L t count names) ws)) u a.2 in
      subst (AllValid L t n count) (done_inj b.1) (letters-right ws (words_right (pieces_of value) ws a.1) b.0)

  pub strings_right : (lines : List ℕ) (u v : List Letter) → read_strings L t count names lines ≡ done (u, v)
      → AllValid L t n count u × AllValid L t n count v
  strings_right lines u v e =
      let r = two_lines L t count names lines u v e in
      (value-right 1 r.left u r.left-read, value-right 2 r.right v r.right-read)
