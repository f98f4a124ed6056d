-- What reading back promises: the answer, and the lent rows afterwards.
-- Source: document 02, [2] ("read back, a line not of this form ... after the grammar's own faults and before 14"). Assumes nothing.
use Rattle.std.specs.Prelude.{ℕ, ◌≡◌, ◌&&◌, List, map, leb, length}
use Rattle.grammar.specs.Limits.{Limits, limits}
use Rattle.grammar.specs.Refusal.{Answer, done, refused, refuse_unless, and_then, buffer_too_short}
use Rattle.automaton.specs.Strings.{Letter}
use Rattle.text.specs.Read.{Source, symbol_names}
use Rattle.text.specs.Rules.{check_text}
use Rattle.text.specs.Promise.{afterwards}
use Rattle.readings.specs.Readings.{read_strings}
use Rattle.readings.specs.Letters.{letter_number}
use Rattle.readings.specs.declared.ReadBack.{ReadBack}
use Rattle.readings.specs.declared.ReadBack.TheVariants.{Read, GrammarRefused, Refused}

module _ (L : Limits) where
  -- what two lines say in the grammar of a text: line 1, line 2, then 14, where the rows lent have this many entries
  unfoldable pub strings_into : ℕ → ℕ → List ℕ → Source → Answer (List Letter × List Letter)
  strings_into left right lines s =
      and_then (read_strings L (length s.terminals) (length s.rules) (symbol_names s) lines) (λ p.
      refuse_unless buffer_too_short 0 (leb (length p.0) left && leb (length p.1) right) (done p))

  -- a fault of the grammar's text comes before, and is told apart
  unfoldable pub read_back_into : ℕ → ℕ → List ℕ → List ℕ → Answer (Answer (List Letter × List Letter))
  read_back_into left right text lines = and_then (check_text L text) (λ s. done (strings_into left right lines s))

-- the answer as the code gives it: how many letters either string has
abbrev pub read_back : Answer (Answer (List Letter × List Letter)) → ReadBack
read_back (done (done p)) = Read (length p.0) (length p.1)
read_back (done (refused cause at)) = Refused cause at
read_back (refused cause at) = GrammarRefused cause at

-- a lent row afterwards, with a string's letters at its front; a refusal changes nothing
abbrev pub row_after : Answer (Answer (List Letter × List Letter)) → (List Letter × List Letter → List Letter) → List ℕ → List ℕ
row_after (done o) side old = afterwards o (λ p. map letter_number (side p)) old
row_after (refused cause at) side old = old

-- reading back, from a grammar's text, two lines and two lent rows
pub record ReadsBack (text lines left right : List ℕ) (r : ReadBack) (left' right' : List ℕ) : Type 0 where
  pub answer : r ≡ read_back (read_back_into limits (length left) (length right) text lines)
  pub left_after : left' ≡ row_after (read_back_into limits (length left) (length right) text lines) (λ p. p.0) left
  pub right-after : right' ≡ row_after (read_back_into limits (length left) (length right) text lines) (λ p. p.1) right
