-- What the functions that read two lines back tell of the lines. A fault is told by the definition's refusal, a result by a record
-- of facts.
-- Assumes nothing.
use Rattle.std.specs.Prelude.{Option, None, Some, ℕ, ◌+◌, ◌≤◌, ◌<◌, ◌≡◌, ◌&&◌, List, map, leb, length, drop}
use Rattle.std.proofs.Math.Option.{none, some}
use Rattle.grammar.specs.Limits.{limits}
use Rattle.grammar.specs.Refusal.{Answer, done, refused, refuse_unless, and_then, buffer_too_short, malformed}
use Rattle.automaton.specs.Strings.{Letter}
use Rattle.text.specs.Pieces.{line_end, split_on}
use Rattle.text.specs.Keys.{value_of}
use Rattle.text.specs.Read.{refuse_none, whole_line}
use Rattle.text.specs.declared.TextRead.{TextRead}
use Rattle.names.specs.Found.{part}
use Rattle.text_read.specs.Texts.{ChecksText}
use Rattle.readings.specs.Readings.{right_key, pieces_of, at_end, read_words, read_strings}
use Rattle.readings.specs.Letters.{letter_number}
use Rattle.readings.specs.Promise.{read_back, row_after}
use Rattle.readings.specs.declared.ReadBack.{ReadBack}
use Rattle.readings_read.specs.declared.Line.{Line}
use Rattle.readings_read.specs.declared.Line.TheVariants.{Said as LineSaid, Fault as LineFault}
use Rattle.readings_read.specs.declared.Lines.{Lines}
use Rattle.readings_read.specs.declared.Lines.TheVariants.{Said, Fault}
use Rattle.readings_read.specs.Words.{entry_at}

-- a grammar's text was checked, with this answer: where it passes, the rows begin with the places of its names
pub record GrammarChecked (text : List ℕ) (r : TextRead) (starts lengths : List ℕ) : Type 0 where
  pub row : List ℕ
  pub checks : ChecksText text r row starts lengths

-- the value of a line with this key starts there
pub record StartsAt (key line : List ℕ) (start : ℕ) : Type 0 where
  pub inside : start ≤ length line
  pub value : value_of key line ≡ some (part start (length line) line)

-- where the value starts, or that the line has no such key
abbrev pub StartTold : List ℕ → List ℕ → Option ℕ → Type 0
StartTold key line (Some start) = StartsAt key line start
StartTold key line None = value_of key line ≡ none

-- for a grammar of t terminals, so many rules and these names
module _ (t count : ℕ) (names : List (List ℕ)) where
  -- a value that says a string of k letters, of which the entries are these
  pub record Says (v : List ℕ) (string : List Letter) (k : ℕ) : Type 0 where
    pub entries : map (entry_at t count names) (pieces_of v) ≡ map letter_number string
    pub counts : k ≡ length string

  -- what line `at` says under a key: 16, 17
  unfoldable pub line_of : ℕ → List ℕ → List ℕ → Answer (List Letter)
  line_of at key line = refuse_none malformed at (value_of key line) (read_words limits t count names at)

  -- a line says a string of k letters by its value
  pub record SaysAt (at : ℕ) (key line : List ℕ) (start k : ℕ) : Type 0 where
    pub inside : start ≤ length line
    pub string : List Letter
    pub read : line_of at key line ≡ done string
    pub says : Says (part start (length line) line) string k

  -- a line
  abbrev pub LineTold : ℕ → List ℕ → List ℕ → Line → Type 0
  LineTold at key line (LineSaid start k) = SaysAt at key line start k
  LineTold at key line (LineFault cause place) = line_of at key line ≡ refused cause place

  -- what the second line and those after it make of the lines, whose first says a string
  abbrev pub read_second : List Letter → List ℕ → List (List ℕ) → Answer (List Letter × List Letter)
  read_second u second rest =
      refuse_unless malformed 2 (at_end rest)
      (refuse_none malformed 2 (value_of right_key second) (λ r. and_then (read_words limits t count names 2 r) (λ v. done (u, v))))

  -- the first line is read: its value stands from a to e and says a string of k letters; what the lines after it make of the lines
  pub record FirstSaid (lines : List ℕ) (a e k : ℕ) : Type 0 where
    pub inside : a ≤ e
    pub ends : e < length lines
    pub string : List Letter
    pub says : Says (part a e lines) string k
    pub onward : read_strings limits t count names lines ≡ whole_line 2 (split_on line_end (drop (e + 1) lines)) (read_second string)

  -- both lines are read: their values stand from a to e and from b to f, and say strings of k and l letters
  pub record BothSaid (lines : List ℕ) (a e k b f l : ℕ) : Type 0 where
    pub first : a ≤ e
    pub first-inside : e ≤ length lines
    pub second : b ≤ f
    pub second-inside : f ≤ length lines
    pub left : List Letter
    pub right : List Letter
    pub read : read_strings limits t count names lines ≡ done (left, right)
    pub left-says : Says (part a e lines) left k
    pub right-says : Says (part b f lines) right l

  -- both lines
  abbrev pub LinesTold : List ℕ → Lines → Type 0
  LinesTold lines (Said a e k b f l) = BothSaid lines a e k b f l
  LinesTold lines (Fault cause place) = read_strings limits t count names lines ≡ refused cause place

  -- then 14, where the rows lent have so many entries
  unfoldable pub lines_into : ℕ → ℕ → List ℕ → Answer (List Letter × List Letter)
  lines_into left right lines =
      and_then (read_strings limits t count names lines) (λ p.
      refuse_unless buffer_too_short 0 (leb (length p.0) left && leb (length p.1) right) (done p))

  -- the lines read in the grammar, from two lent rows
  pub record BackTold (lines left right : List ℕ) (r : ReadBack) (left' right' : List ℕ) : Type 0 where
    pub answer : r ≡ read_back (done (lines_into (length left) (length right) lines))
    pub left_after : left' ≡ row_after (done (lines_into (length left) (length right) lines)) (λ p. p.0) left
    pub right-after : right' ≡ row_after (done (lines_into (length left) (length right) lines)) (λ p. p.1) right
