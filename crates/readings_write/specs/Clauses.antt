-- What the contracts of the writer of readings say. Assumes nothing.
use Rattle.std.specs.Prelude.{ℕ, ◌+◌, ◌*◌, ◌≤◌, ◌<◌, ◌≡◌, true, List, [], ◌∷◌, ◌++◌, map, length, get_or}
use Rattle.grammar.specs.Limits.{limits}
use Rattle.text.specs.Pieces.{line_end, space, led_by}
use Rattle.text.specs.Names.{all, is_name}
use Rattle.text.specs.Spelled.{spelled}
use Rattle.text_write.specs.Clauses.{Rows}
use Rattle.readings.specs.Readings.{Valid, word, words, reading_lines}
use Rattle.readings.specs.Letters.{letter_from}

-- rows that spell well-formed names, of which t are terminals and n nonterminals; a grammar of so many rules
pub record Named (t n count : ℕ) (text starts lengths : List ℕ) : Type 0 where
  pub rows : Rows text starts lengths
  pub named : all is_name (spelled text starts lengths) ≡ true
  pub symbols : length starts ≡ t + n
  pub few-terminals : t ≤ limits.max_terminals
  pub few-nonterminals : n ≤ limits.max_nonterminals
  pub few-rules : count ≤ limits.max_rules

-- the entries of a row are letters of such a grammar
abbrev pub Letters : ℕ → ℕ → ℕ → List ℕ → Type 0
Letters t n count l = (i : ℕ) → i < length l → Valid limits t n count (letter_from (get_or l i 0))

-- a word has at most 15 bytes, and a space before it
abbrev pub word_room : ℕ
word_room = 16

-- the keys, equals signs and line ends of the two lines
abbrev pub keys_room : ℕ
keys_room = 13

-- two rows of letters, and room for their lines from place `at` on
pub record Sayable (t : ℕ) (text starts lengths left right : List ℕ) (at : ℕ) (out : List ℕ) : Type 0 where
  pub nonterminals : ℕ
  pub rules : ℕ
  pub names : Named t nonterminals rules text starts lengths
  pub left-letters : Letters t nonterminals rules left
  pub right-letters : Letters t nonterminals rules right
  pub room : at + (word_room * (length left + length right) + keys_room) ≤ length out

-- the two lines of two rows of letters
abbrev pub lines_of : ℕ → List (List ℕ) → List ℕ → List ℕ → List ℕ
lines_of t names left right = reading_lines limits t names (map letter_from left) (map letter_from right)

-- ---- the inner functions

-- a row of letters of a grammar whose names are lent
pub record Worded (t : ℕ) (text starts lengths letters : List ℕ) : Type 0 where
  pub nonterminals : ℕ
  pub rules : ℕ
  pub names : Named t nonterminals rules text starts lengths
  pub valid : Letters t nonterminals rules letters

-- the words of a row with a space before each, and with a space between them
abbrev pub led_of : ℕ → List (List ℕ) → List ℕ → List ℕ
led_of t names letters = led_by space (map (word limits t names) (map letter_from letters))

abbrev pub words_of : ℕ → List (List ℕ) → List ℕ → List ℕ
words_of t names letters = words limits t names (map letter_from letters)

-- a line: a key with its equals sign, the words, byte 10
abbrev pub line_of : ℕ → List (List ℕ) → List ℕ → List ℕ → List ℕ
line_of t names key letters = key ++ (words_of t names letters ++ (line_end ∷ []))
