-- The two lines of two strings say these strings again; so different pairs of strings never give the same lines.
-- Assumes nothing.
use Prim.Native.Nat.{ℕ, ◌+◌, ◌-◌, ◌≤◌, ◌<◌}
use mathlib.Core.Path.{◌≡◌, refl, sym, ap, ◌∙◌}
use mathlib.Core.Bool.{Bool, true, false, not}
use mathlib.Core.Logic.{◌⊎◌}
use mathlib.Core.List.{List, [], ◌∷◌, ◌++◌, map}
use mathlib.Core.Option.{none, some}
use native.Mathlib.Omega.{arith}
use lib.Dec.{eqb, leb}
use lib.ListN.{length, get_or}
use borrow.Author.Tests.{not-true, le-leb, ne_eqb}
use Rattle.grammar.specs.Basics.{choose}
use Rattle.grammar.specs.Limits.{Limits}
use Rattle.grammar.specs.Grammar.{Terminal, Nonterminal, start}
use Rattle.grammar.specs.Refusal.{Answer, done, refused, refuse_unless, and_then}
use Rattle.grammar.proofs.Answers.{both_and}
use Rattle.automaton.specs.Strings.{Letter, opening, closing, symbol}
use Rattle.text.specs.Pieces.{split_on, join, led_by}
use Rattle.text.specs.Names.{within, all, is_name, is_name_byte, same_name, has_double, place}
use Rattle.text.specs.Read.{refuse_none, whole_line, number_of, code_of, symbol_of}
use Rattle.text.specs.Print.{name_of}
use Rattle.text.proofs.Pieces.{all_head, all_cons, all_none, all_append, all-at, all_weaker, other, split-join, split-ended, join_free}
use Rattle.text.proofs.Names.{within_both, name-size, name_free, no_line-end, no_space, place-again, number_known, right_number, key-value}
use Rattle.text.specs.Numbers.{decimal, number_from, is_decimal}
use Rattle.readings.specs.Readings.{left_key, right_key, word, words, reading_lines, Valid, AllValid, Word, bracket, name, rule_number, word_of, words_of, pieces_of, known_word, letter_of, read_words, read_strings}
use Rattle.text.proofs.Numbers.{number_decimal, decimal-digits, decimal_form}

-- a digit is no byte below 48
digit_other : (c : ℕ) → c < 48 → (b : ℕ) → within 48 57 b ≡ true → other c b ≡ true
digit_other c h b e = ap not (ne_eqb b c (λ q. omega (arith, (within_both 48 57 b e).0)))

no_open : is_name_byte 40 ≡ false
unfolding is_name_byte
no_open = refl

no_close : is_name_byte 41 ≡ false
unfolding is_name_byte
no_close = refl

pieces_none_lem : pieces_of [] ≡ []
unfolding pieces_of
pieces_none_lem = refl

pieces_some_lem : (b : ℕ) (s : List ℕ) → pieces_of (b ∷ s) ≡ split_on 32 (b ∷ s)
unfolding pieces_of
pieces_some_lem b s = refl

module _ (L : Limits) (t n count : ℕ) (names : List (List ℕ)) where
  module _ (apart : t < start L) (named : all is_name names ≡ true) (once : has_double names ≡ false) (long : length names ≡ t + n) where
    -- what a word says
    abbrev said : Letter → Word
    said (opening i) = bracket (opening i)
    said (closing i) = bracket (closing i)
    said (symbol x) = name (name_of L t names x)

    name_good : (x : ℕ) → Terminal t x ⊎ Nonterminal L n x → is_name (name_of L t names x) ≡ true
    unfolding name_of
    name_good x h = all-at is_name names (symbol_of L t x) [] named (omega (arith, (right_number L t apart n x h).high, long))

    rule-word : (i : ℕ) (kind : ℕ → Letter) → i ≤ count → rule_number count kind (decimal i) ≡ some (bracket (kind i))
    unfolding rule_number
    rule-word i kind h =
        let e = both_and (is_decimal (decimal i)) (leb (number_from 0 (decimal i)) count) (decimal_form i) (le-leb (number_from 0 (decimal i)) count (omega (arith, number_decimal i))) in
        ap (λ (b : Bool). choose b (some (bracket (kind (number_from 0 (decimal i))))) none) e ∙ ap (λ (j : ℕ). some (bracket (kind j))) (number_decimal i)

    -- a name begins with neither parenthesis
    name-word : (s : List ℕ) → is_name s ≡ true → word_of count s ≡ some (name s)
    unfolding word_of
    name-word [] e = absurd (omega (arith, (name-size [] e).0))
    name-word (b ∷ s) e =
        let x : eqb b 40 ≡ false = free b s 40 no_open e in
        let y : eqb b 41 ≡ false = free b s 41 no_close e in
        rw (x, y, e) refl
      where
        free : (b : ℕ) (s : List ℕ) (c : ℕ) → is_name_byte c ≡ false → is_name (b ∷ s) ≡ true → eqb b c ≡ false
        free b s c f e = not-true (eqb b c) (all_head (other c) b s (name_free c (b ∷ s) f e))

    -- each word of the grammar's letters is read as what it says
    word_read : (l : Letter) → Valid L t n count l → word_of count (word L t names l) ≡ some (said l)
    unfolding word_of
    word_read (opening i) h = rule-word i (λ i. opening i) h
    word_read (closing i) h = rule-word i (λ i. closing i) h
    word_read (symbol x) h = name-word (name_of L t names x) (name_good x h)

    words-read : (u : List Letter) → AllValid L t n count u → words_of count (map (word L t names) u) ≡ some (map said u)
    unfolding words_of
    words-read [] h = refl
    words-read (l ∷ u) h = rw (word_read l h.0, words-read u h.1) refl

    -- it is known, and its letter is the letter
    said-known : (l : Letter) → Valid L t n count l → (known_word L t count names (said l) ≡ true) × (letter_of L t count names (said l) ≡ l)
    unfolding name_of number_of
    said-known (opening i) h = (refl, refl)
    said-known (closing i) h = (refl, refl)
    said-known (symbol x) h =
        let r = right_number L t apart n x h in
        let i = symbol_of L t x in
        let l : i < length names = omega (arith, r.high, long) in
        let e : place (same_name (get_or names i [])) names ≡ i = place-again names i once l in
        (number_known 0 names (get_or names i []) (omega arith) (omega (arith, e)), ap (λ (j : ℕ). symbol (code_of L t j)) e ∙ ap (λ (c : ℕ). symbol c) r.again)

    all_known : (u : List Letter) → AllValid L t n count u → (all (known_word L t count names) (map said u) ≡ true) × (map (letter_of L t count names) (map said u) ≡ u)
    all_known [] h = (all_none (known_word L t count names), refl)
    all_known (l ∷ u) h =
        let a = said-known l h.0 in
        let b = all_known u h.1 in
        (all_cons (known_word L t count names) (said l) (map said u) a.0 b.0, cc (a.1, b.1))

    -- words have neither a space nor the end of a line
    word_free : (c : ℕ) → c < 40 → is_name_byte c ≡ false → (l : Letter) → Valid L t n count l → all (other c) (word L t names l) ≡ true
    word_free c s f (opening i) h =
        all_cons (other c) 40 (decimal i) (ap not (ne_eqb 40 c (λ q. omega arith))) (all_weaker (within 48 57) (other c) (decimal i) (digit_other c (omega arith)) (decimal-digits i))
    word_free c s f (closing i) h =
        all_cons (other c) 41 (decimal i) (ap not (ne_eqb 41 c (λ q. omega arith))) (all_weaker (within 48 57) (other c) (decimal i) (digit_other c (omega arith)) (decimal-digits i))
    word_free c s f (symbol x) h = name_free c (name_of L t names x) f (name_good x h)

    all_free : (c : ℕ) → c < 40 → is_name_byte c ≡ false → (u : List Letter) → AllValid L t n count u → all (all (other c)) (map (word L t names) u) ≡ true
    all_free c s f [] h = all_none (all (other c))
    all_free c s f (l ∷ u) h = all_cons (all (other c)) (word L t names l) (map (word L t names) u) (word_free c s f l h.0) (all_free c s f u h.1)

    -- a word is not empty
    word_some : (l : Letter) → Valid L t n count l → 0 < length (word L t names l)
    word_some (opening i) h = omega arith
    word_some (closing i) h = omega arith
    word_some (symbol x) h = omega (arith, (name-size (name_of L t names x) (name_good x h)).0)

    pieces_again : (u : List Letter) → AllValid L t n count u → pieces_of (words L t names u) ≡ map (word L t names) u
    unfolding words join
    pieces_again [] h = empty
      where
        empty : pieces_of [] ≡ []
        empty = pieces_none_lem
    pieces_again (l ∷ u) h = go (word L t names l) (word_some l h.0) (split-join 32 (word L t names l) (map (word L t names) u) (all_free 32 (omega arith) no_space (l ∷ u) h))
      where
        go : (w : List ℕ) → 0 < length w → split_on 32 (w ++ led_by 32 (map (word L t names) u)) ≡ w ∷ map (word L t names) u
            → pieces_of (w ++ led_by 32 (map (word L t names) u)) ≡ w ∷ map (word L t names) u
        go [] l e = absurd (omega arith)
        go (b ∷ w) l e = pieces_some_lem b (w ++ led_by 32 (map (word L t names) u)) ∙ e

    words-again : (at : ℕ) (u : List Letter) → AllValid L t n count u → read_words L t count names at (words L t names u) ≡ done u
    unfolding read_words refuse_none refuse_unless
    words-again at u h =
        let k = all_known u h in
        rw (pieces_again u h, words-read u h, k.0) (ap (λ (v : List Letter). done v) k.1)

    line_free : (key : List ℕ) → all (other 10) key ≡ true → (u : List Letter) → AllValid L t n count u → all (other 10) (key ++ 61 ∷ words L t names u) ≡ true
    unfolding words
    line_free key e u h =
        all_append (other 10) key (61 ∷ join 32 (map (word L t names) u)) e
        (all_cons (other 10) 61 (join 32 (map (word L t names) u)) refl (join_free 10 32 (map (word L t names) u) refl (all_free 10 (omega arith) no_line-end u h)))

    -- what the two lines say is the two strings
    pub lines-again : (u v : List Letter) → AllValid L t n count u → AllValid L t n count v → read_strings L t count names (reading_lines L t names u v) ≡ done (u, v)
    unfolding read_strings reading_lines whole_line refuse_none refuse_unless and_then all
    lines-again u v hu hv =
        let l = left_key ++ 61 ∷ words L t names u in
        let r = right_key ++ 61 ∷ words L t names v in
        let free = all_cons (all (other 10)) l (r ∷ []) (line_free left_key refl u hu) (all_cons (all (other 10)) r [] (line_free right_key refl v hv) (all_none (all (other 10)))) in
        rw (split-ended 10 (l ∷ r ∷ []) free, key-value left_key (words L t names u), words-again 1 u hu, key-value right_key (words L t names v), words-again 2 v hv) refl

    -- different pairs of strings never give the same lines
    pub lines_apart : (u v u' v' : List Letter) → AllValid L t n count u → AllValid L t n count v → AllValid L t n count u' → AllValid L t n count v'
        → reading_lines L t names u v ≡ reading_lines L t names u' v' → (u ≡ u') × (v ≡ v')
    lines_apart u v u' v' a b c d e =
        let q : ◌≡◌ {A = Answer (List Letter × List Letter)} (done (u, v)) (done (u', v')) = sym (lines-again u v a b) ∙ ap (read_strings L t count names) e ∙ lines-again u' v' c d in
        (ap (λ (o : Answer (List Letter × List Letter)). fst o) q, ap (λ (o : Answer (List Letter × List Letter)). snd o) q)
      where
        fst : Answer (List Letter × List Letter) → List Letter
        fst (done p) = p.0
        fst (refused c a) = []

        snd : Answer (List Letter × List Letter) → List Letter
        snd (done p) = p.1
        snd (refused c a) = []
