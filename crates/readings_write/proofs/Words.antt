-- The word of a letter by its kind, and the lines in the pieces in which they are written.
-- Assumes nothing.
use Prim.Native.Nat.{ℕ, suc, ◌+◌, ◌-◌, ◌/◌, ◌%◌, ◌≤◌, ◌<◌}
use mathlib.Core.Path.{◌≡◌, refl, ap, sym, subst, ◌∙◌}
use mathlib.Core.Logic.{◌⊎◌, inl, inr}
use mathlib.Core.List.{List, [], ◌∷◌, ◌++◌, append_assoc}
use native.Mathlib.Omega.{arith}
use borrow.Author.Tests.{eq-eqb, ne_eqb}
use lib.ListN.{length, take, drop, get_or, length-drop, drop_of_length-le}
use lib.Seq.{take_all}
use Rattle.grammar.specs.Limits.{limits}
use Rattle.grammar.specs.Grammar.{Terminal, Nonterminal}
use Rattle.grammar.proofs.Lists.{drop-next}
use Rattle.automaton.specs.Strings.{opening, closing, symbol}
use Rattle.text.specs.Pieces.{led_by, join, ended_by}
use Rattle.text.specs.Numbers.{decimal}
use Rattle.text.specs.Read.{symbol_of}
use Rattle.text.specs.Print.{name_of}
use Rattle.text.proofs.Names.{right_number}
use Rattle.readings.specs.Readings.{left_key, right_key, word, words, reading_lines, Valid}
use Rattle.readings.specs.Letters.{letter_from}
use Rattle.readings_write.specs.Clauses.{Worded, Sayable, led_of, words_of, line_of, lines_of}

-- ---- the letter of an entry, by its kind

module _ (x : ℕ) where
  is_opening : x / 65536 ≡ 1 → letter_from x ≡ opening (x % 65536)
  is_opening h = rw (eq-eqb (x / 65536) 1 h)

  module _ (h : x / 65536 ≡ 1 → ⊥) where
    is_closing : x / 65536 ≡ 2 → letter_from x ≡ closing (x % 65536)
    is_closing k = rw (ne_eqb (x / 65536) 1 h, eq-eqb (x / 65536) 2 k)

    is_symbol : (x / 65536 ≡ 2 → ⊥) → letter_from x ≡ symbol (x % 65536)
    is_symbol k = rw (ne_eqb (x / 65536) 1 h, ne_eqb (x / 65536) 2 k)

-- its word
module _ (t : ℕ) (names : List (List ℕ)) (x : ℕ) where
  pub opening-word : x / 65536 ≡ 1 → word limits t names (letter_from x) ≡ 40 ∷ decimal (x % 65536)
  opening-word h = ap (word limits t names) (is_opening x h)

  pub closing-word : (x / 65536 ≡ 1 → ⊥) → x / 65536 ≡ 2 → word limits t names (letter_from x) ≡ 41 ∷ decimal (x % 65536)
  closing-word h k = ap (word limits t names) (is_closing x h k)

  pub symbol-word : (s : ℕ) → (x / 65536 ≡ 1 → ⊥) → (x / 65536 ≡ 2 → ⊥) → s ≡ symbol_of limits t (x % 65536)
      → word limits t names (letter_from x) ≡ get_or names s []
  unfolding name_of
  symbol-word s h k e = ap (word limits t names) (is_symbol x h k) ∙ ap (λ (s : ℕ). get_or names s []) (sym e)

-- the letters after the first
others_all : (xs : List ℕ) → take (length xs - 1) (drop 1 xs) ≡ drop 1 xs
others_all xs = take_all (length xs - 1) (drop 1 xs) (omega (arith, length-drop 1 xs))

-- a symbol has 16 bits, and has a name
pub record Spelt (t m code : ℕ) : Type 0 where
  pub some : 1 ≤ code
  pub fits : code < 65536
  pub known : symbol_of limits t code < m

spelt : (t n code : ℕ) → t ≤ limits.max_terminals → n ≤ limits.max_nonterminals → Terminal t code ⊎ Nonterminal limits n code
    → Spelt t (t + n) code
spelt t n code few less h =
    let r = right_number limits t (omega arith) n code h in
    elim h [
      | inl a ↦ record { some = a.0; fits = omega (arith, a.1); known = r.high }
      | inr a ↦ record { some = omega (arith, a.0); fits = omega (arith, a.1); known = r.high }
    ]

module _ {t : ℕ} {text starts lengths : List ℕ} where
  pub symbol-spelt : (x : ℕ) → Worded t text starts lengths (x ∷ []) → (x / 65536 ≡ 1 → ⊥) → (x / 65536 ≡ 2 → ⊥)
      → Spelt t (length starts) (x % 65536)
  symbol-spelt x w h k =
      let n = w.names in
      subst (λ m. Spelt t m (x % 65536)) (sym n.symbols)
      (spelt t w.nonterminals (x % 65536) n.few-terminals n.few-nonterminals
      (subst (Valid limits t w.nonterminals w.rules) (is_symbol x h k) (w.valid 0 (omega arith))))

  -- each letter of a row
  pub worded_at : {letters : List ℕ} (i : ℕ) → Worded t text starts lengths letters → i < length letters
      → Worded t text starts lengths (get_or letters i 0 ∷ [])
  worded_at {letters} i w h = record {
    nonterminals = w.nonterminals;
    rules = w.rules;
    names = w.names;
    valid = λ j l. (let q : 0 ≡ j = omega arith in
        subst (λ j. Valid limits t w.nonterminals w.rules (letter_from (get_or (get_or letters i 0 ∷ []) j 0))) q (w.valid i h));
  }

  -- those after the first, as the part that the code takes
  pub worded_others : {letters : List ℕ} → Worded t text starts lengths letters
      → Worded t text starts lengths (take (length letters - 1) (drop 1 letters))
  worded_others {letters} w = subst (Worded t text starts lengths) (sym (others_all letters)) (go letters w)
    where
      go : (letters : List ℕ) → Worded t text starts lengths letters → Worded t text starts lengths (drop 1 letters)
      go [] w = w
      go (x ∷ xs) w = record {
        nonterminals = w.nonterminals;
        rules = w.rules;
        names = w.names;
        valid = λ i h. w.valid (suc i) (omega arith);
      }

  module _ {left right out : List ℕ} {at : ℕ} (s : Sayable t text starts lengths left right at out) where
    pub left_worded : Worded t text starts lengths left
    left_worded = record { nonterminals = s.nonterminals; rules = s.rules; names = s.names; valid = s.left-letters }

    pub right_worded : Worded t text starts lengths right
    right_worded = record { nonterminals = s.nonterminals; rules = s.rules; names = s.names; valid = s.right-letters }

-- ---- strings and lines

module _ (t : ℕ) (names : List (List ℕ)) where
  pub led-turn : (letters : List ℕ) (i : ℕ) → i < length letters → led_of t names (drop i letters)
      ≡ (32 ∷ []) ++ (word limits t names (letter_from (get_or letters i 0)) ++ led_of t names (drop (i + 1) letters))
  unfolding led_by
  led-turn letters i h = ap (led_of t names) (drop-next letters i h)

  pub led-end : (letters : List ℕ) (i : ℕ) → length letters ≤ i → led_of t names (drop i letters) ≡ []
  unfolding led_by
  led-end letters i h = ap (led_of t names) (drop_of_length-le letters h)

  pub words-none : (letters : List ℕ) → length letters < 1 → words_of t names letters ≡ []
  unfolding words join
  words-none [] h = refl
  words-none (x ∷ xs) h = absurd (omega arith)

  pub words-turn : (letters : List ℕ) → 1 ≤ length letters → words_of t names letters
      ≡ word limits t names (letter_from (get_or letters 0 0)) ++ led_of t names (take (length letters - 1) (drop 1 letters))
  unfolding words join
  words-turn [] h = absurd (omega arith)
  words-turn (x ∷ xs) h = ap (λ others. word limits t names (letter_from x) ++ led_of t names others) (sym (others_all (x ∷ xs)))

  -- the left line, then the right one
  pub lines-parts : (left right : List ℕ) → lines_of t names left right
      ≡ line_of t names (left_key ++ (61 ∷ [])) left ++ line_of t names (right_key ++ (61 ∷ [])) right
  unfolding reading_lines ended_by
  lines-parts left right =
      ap (λ (s : List ℕ). (left_key ++ (61 ∷ [])) ++ s)
      (sym (append_assoc (words_of t names left) (10 ∷ []) (line_of t names (right_key ++ (61 ∷ [])) right)))
