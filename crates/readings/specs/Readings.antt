-- Two strings as two lines, and what two lines say.
-- Source: document 02, [2]. A word is `(i` for opening i, `)i` for closing i, or a symbol's name; a name has no parenthesis.
-- Assumes nothing.
use Rattle.std.specs.Prelude.{ℕ, ◌≤◌, Bool, true, false, ◌&&◌, List, [], ◌∷◌, ◌++◌, map, ◌⊎◌, eqb, leb}
use Rattle.std.proofs.Math.Option.{Option, none, some}
use Rattle.grammar.specs.Basics.{choose}
use Rattle.grammar.specs.Limits.{Limits}
use Rattle.grammar.specs.Grammar.{Terminal, Nonterminal}
use Rattle.grammar.specs.Refusal.{Answer, done, refuse_unless, and_then, malformed, name_unknown}
use Rattle.automaton.specs.Strings.{Letter, opening, closing, symbol}
use Rattle.text.specs.Pieces.{line_end, space, equals, split_on, join, ended_by}
use Rattle.text.specs.Names.{all, is_name}
use Rattle.text.specs.Numbers.{decimal, number_from, is_decimal}
use Rattle.text.specs.Keys.{value_of}
use Rattle.text.specs.Read.{refuse_none, whole_line, number_of, is_known, code_of}
use Rattle.text.specs.Print.{name_of}

-- ---- words and lines

-- ( and )
abbrev pub opens : ℕ
opens = 40

abbrev pub closes : ℕ
closes = 41

-- left and right
abbrev pub left_key : List ℕ
left_key = 108 ∷ 101 ∷ 102 ∷ 116 ∷ []

abbrev pub right_key : List ℕ
right_key = 114 ∷ 105 ∷ 103 ∷ 104 ∷ 116 ∷ []

module _ (L : Limits) (t : ℕ) (names : List (List ℕ)) where
  -- a letter as a word, where t of the names are terminals
  abbrev pub word : Letter → List ℕ
  word (opening i) = opens ∷ decimal i
  word (closing i) = closes ∷ decimal i
  word (symbol x) = name_of L t names x

  -- a string: its words with one space between; the empty string has none
  unfoldable pub words : List Letter → List ℕ
  words u = join space (map word u)

  -- the two lines
  unfoldable pub reading_lines : List Letter → List Letter → List ℕ
  reading_lines u v = ended_by line_end ((left_key ++ equals ∷ words u) ∷ (right_key ++ equals ∷ words v) ∷ [])

-- the letter is one of a grammar with t terminals, n nonterminals and this many rules: it opens or closes a rule that the grammar
-- has, rule 0 among them, or is a declared symbol
module _ (L : Limits) (t n count : ℕ) where
  abbrev pub Valid : Letter → Type 0
  Valid (opening i) = i ≤ count
  Valid (closing i) = i ≤ count
  Valid (symbol x) = Terminal t x ⊎ Nonterminal L n x

  abbrev pub AllValid : List Letter → Type 0
  AllValid [] = Unit {0}
  AllValid (l ∷ u) = Valid l × AllValid u

-- ---- what lines say

-- a word that is read: an opening or a closing, or a name
pub data Word : Type 0 where
  bracket : Letter → Word
  name : List ℕ → Word

-- digits that are the number of a rule, from 0 to count
unfoldable pub rule_number : ℕ → (ℕ → Letter) → List ℕ → Option Word
rule_number count kind s = choose (is_decimal s && leb (number_from 0 s) count) (some (bracket (kind (number_from 0 s)))) none

-- what stands between spaces, if it is of the form of a word
unfoldable pub word_of : ℕ → List ℕ → Option Word
word_of count [] = none
word_of count (b ∷ s) =
    choose (eqb b opens) (rule_number count (λ i. opening i) s)
    (choose (eqb b closes) (rule_number count (λ i. closing i) s)
    (choose (is_name (b ∷ s)) (some (name (b ∷ s))) none))

-- a word before others, if all are there
abbrev pub joined : Option Word → Option (List Word) → Option (List Word)
joined none b = none
joined (some w) none = none
joined (some w) (some ws) = some (w ∷ ws)

-- all of them, or none where one is not of that form
unfoldable pub words_of : ℕ → List (List ℕ) → Option (List Word)
words_of count [] = some []
words_of count (p ∷ ps) = joined (word_of count p) (words_of count ps)

-- the pieces of a value: none where it is empty, else what stands between spaces
unfoldable pub pieces_of : List ℕ → List (List ℕ)
pieces_of [] = []
pieces_of (b ∷ s) = split_on space (b ∷ s)

-- nothing stands past the last line
abbrev pub at_end : List (List ℕ) → Bool
at_end [] = false
at_end ([] ∷ []) = true
at_end ([] ∷ p ∷ ps) = false
at_end ((b ∷ s) ∷ ps) = false

-- for a grammar of t terminals, this many rules and these names
module _ (L : Limits) (t count : ℕ) (names : List (List ℕ)) where
  abbrev pub known_word : Word → Bool
  known_word (bracket l) = true
  known_word (name x) = is_known 0 names x

  abbrev pub letter_of : Word → Letter
  letter_of (bracket l) = l
  letter_of (name x) = symbol (code_of L t (number_of names x))

  -- the string that the value of line `at` says: 16, then 17
  unfoldable pub read_words : ℕ → List ℕ → Answer (List Letter)
  read_words at value =
      refuse_none malformed at (words_of count (pieces_of value)) (λ ws.
      refuse_unless name_unknown at (all known_word ws) (done (map letter_of ws)))

  -- the two strings that two lines say: line 1 first; anything past line 2 makes line 2 malformed
  unfoldable pub read_strings : List ℕ → Answer (List Letter × List Letter)
  read_strings text =
      whole_line 1 (split_on line_end text) (λ first more.
      refuse_none malformed 1 (value_of left_key first) (λ l.
      and_then (read_words 1 l) (λ u.
      whole_line 2 more (λ second rest.
      refuse_unless malformed 2 (at_end rest)
      (refuse_none malformed 2 (value_of right_key second) (λ r.
      and_then (read_words 2 r) (λ v. done (u, v))))))))
