-- What the functions that read two lines back tell of words. The names of a grammar's symbols are those that two rows of starts
-- and lengths spell in its text.
-- Assumes nothing.
use Rattle.std.specs.Prelude.{Option as Maybe, None, Some, Result, Ok, Err, ℕ, ◌+◌, ◌*◌, ◌≤◌, ◌≡◌, false, ◌&&◌, List, leb, length}
use Rattle.std.proofs.Math.Option.{Option, none, some}
use Rattle.grammar.specs.Basics.{choose}
use Rattle.grammar.specs.Limits.{limits}
use Rattle.automaton.specs.Strings.{symbol}
use Rattle.text.specs.Names.{all, is_name, has_double}
use Rattle.text.specs.Numbers.{number_from, is_decimal}
use Rattle.text.specs.Read.{number_of, is_known, code_of}
use Rattle.text.specs.Spelled.{spelled}
use Rattle.readings.specs.Readings.{Word, word_of, words_of, pieces_of, known_word, letter_of}
use Rattle.readings.specs.Letters.{kind_unit, letter_number}
use Rattle.lexicon.specs.Tree.{Spans, Lexicon}
use Rattle.readings_read.specs.declared.WordFault.{WordFault}
use Rattle.readings_read.specs.declared.WordFault.TheVariants.{Unknown, Malformed}

-- rows that spell the names of symbols, no two the same, of which t are terminals; a grammar of so many rules
pub record Named (t count : ℕ) (text starts lengths : List ℕ) : Type 0 where
  pub spans : Spans text starts lengths
  pub once : has_double (spelled text starts lengths) ≡ false
  pub few : t ≤ limits.max_terminals
  pub most : length starts ≤ t + limits.max_nonterminals
  pub rules : count ≤ limits.max_rules

-- such rows, and links by which the names are found
pub record Symbols (t count : ℕ) (text starts lengths links : List ℕ) : Type 0 where
  pub named : Named t count text starts lengths
  pub lexicon : Lexicon text starts lengths links

-- ---- pieces

-- digits that are the number of a rule, as a letter of a kind
unfoldable pub mark_piece : ℕ → ℕ → List ℕ → Result ℕ WordFault
mark_piece kind count s =
    choose (is_decimal s && leb (number_from 0 s) count) (Ok (kind * kind_unit + number_from 0 s)) (Err Malformed)

-- a name
unfoldable pub name_piece : ℕ → List (List ℕ) → List ℕ → Result ℕ WordFault
name_piece t names x =
    choose (is_name x)
    (choose (is_known 0 names x) (Ok (letter_number (symbol (code_of limits t (number_of names x))))) (Err Unknown))
    (Err Malformed)

-- the entry of a letter, 0 where there is none
abbrev pub entry_of : Result ℕ WordFault → ℕ
entry_of (Ok x) = x
entry_of (Err e) = 0

-- ---- faults of words

-- the fault of one, if it has any
abbrev pub piece_fault : Result ℕ WordFault → Maybe WordFault
piece_fault (Ok x) = None
piece_fault (Err e) = Some e

-- malformed counts before unknown
abbrev pub worse : Maybe WordFault → Maybe WordFault → Maybe WordFault
worse None f = f
worse (Some Unknown) None = Some Unknown
worse (Some Unknown) (Some Unknown) = Some Unknown
worse (Some Unknown) (Some Malformed) = Some Malformed
worse (Some Malformed) f = Some Malformed

-- for a grammar of t terminals, so many rules and these names
module _ (t count : ℕ) (names : List (List ℕ)) where
  -- a word that is read
  abbrev pub piece_of : Option Word → Result ℕ WordFault
  piece_of none = Err Malformed
  piece_of (some w) = choose (known_word limits t count names w) (Ok (letter_number (letter_of limits t count names w))) (Err Unknown)

  -- the entry of what stands between two spaces
  unfoldable pub entry_at : List ℕ → ℕ
  entry_at p = entry_of (piece_of (word_of count p))

  -- the fault of words that are read, if they have any
  unfoldable pub fault_of : Option (List Word) → Maybe WordFault
  fault_of none = Some Malformed
  fault_of (some ws) = choose (all (known_word limits t count names) ws) None (Some Unknown)

  -- how many words a value has, all of them known; or their fault
  abbrev pub ValueTold : List ℕ → Result ℕ WordFault → Type 0
  ValueTold v (Ok k) = (fault_of (words_of count (pieces_of v)) ≡ None) × (k ≡ length (pieces_of v))
  ValueTold v (Err e) = fault_of (words_of count (pieces_of v)) ≡ Some e
