-- What the program prints for a text.
-- Source: document 01, "Grammars on file", from "The program reads text from standard input" on; document 02, [2], which adds the
-- lines of the two readings where 01 prints two lines only, and [11], by which it remembers no caller. Assumes nothing.
use Rattle.std.specs.Prelude.{ℕ, ◌+◌, ◌*◌, ◌≡◌, Bool, true, false, List, [], ◌∷◌, ◌++◌, leb, length}
use Rattle.grammar.specs.Limits.{limits}
use Rattle.grammar.specs.Grammar.{Grammar, state_count}
use Rattle.grammar.specs.Refusal.{Answer, done, refused, refuse_unless, and_then, buffer_too_short, cause_number}
use Rattle.automaton.specs.Items.{states}
use Rattle.automaton.specs.PositionMoves.{moves_of}
use Rattle.triples.specs.Index.{triple_count}
use Rattle.triples.specs.Smallest.{size}
use Rattle.triples.specs.Shortest.{shortest}
use Rattle.triples.specs.Sides.{left_side, right_side}
use Rattle.text.specs.Numbers.{decimal}
use Rattle.text.specs.Read.{Source, symbol_names, grammar_of}
use Rattle.text.specs.Rules.{check_text}
use Rattle.text.specs.Promise.{afterwards}
use Rattle.readings.specs.Readings.{reading_lines}
use Rattle.search.specs.Promise.{is_potential}
use Rattle.report.specs.declared.Reported.{Reported}
use Rattle.report.specs.declared.Reported.TheVariants.{Written, Refused}

-- the program takes up to 4,096 bytes of text and 48 states
abbrev pub program_text : ℕ
program_text = 4096

abbrev pub program_states : ℕ
program_states = 48

-- a longer text is 14 before any other fault; more states are 14 after all faults of the text
unfoldable pub judge : List ℕ → Answer Source
judge text =
    refuse_unless buffer_too_short 0 (leb (length text) program_text)
    (and_then (check_text limits text) (λ s.
    refuse_unless buffer_too_short 0 (leb (state_count s.rules) program_states)
    (done s)))

-- states=
abbrev pub states_is : List ℕ
states_is = 115 ∷ 116 ∷ 97 ∷ 116 ∷ 101 ∷ 115 ∷ 61 ∷ []

-- verdict=
abbrev pub verdict_is : List ℕ
verdict_is = 118 ∷ 101 ∷ 114 ∷ 100 ∷ 105 ∷ 99 ∷ 116 ∷ 61 ∷ []

-- reached=
abbrev pub reached_is : List ℕ
reached_is = 114 ∷ 101 ∷ 97 ∷ 99 ∷ 104 ∷ 101 ∷ 100 ∷ 61 ∷ []

-- refused=
abbrev pub refused_is : List ℕ
refused_is = 114 ∷ 101 ∷ 102 ∷ 117 ∷ 115 ∷ 101 ∷ 100 ∷ 61 ∷ []

-- at=
abbrev pub at_is : List ℕ
at_is = 97 ∷ 116 ∷ 61 ∷ []

-- unambiguous
abbrev pub unambiguous : List ℕ
unambiguous = 117 ∷ 110 ∷ 97 ∷ 109 ∷ 98 ∷ 105 ∷ 103 ∷ 117 ∷ 111 ∷ 117 ∷ 115 ∷ []

-- potential
abbrev pub potential : List ℕ
potential = 112 ∷ 111 ∷ 116 ∷ 101 ∷ 110 ∷ 116 ∷ 105 ∷ 97 ∷ 108 ∷ []

-- a line, ended by byte 10
abbrev pub line : List ℕ → List ℕ → List ℕ
line key value = key ++ (value ++ (10 ∷ []))

-- the two sides of the shortest witness, by these names
unfoldable pub witness_lines : Grammar → List (List ℕ) → List ℕ
witness_lines G names =
    let M = moves_of limits G in
    reading_lines limits G.terminals names (left_side M (shortest M)) (right_side M (shortest M))

-- the verdict: with potential the two lines, with unambiguous the size
abbrev pub verdict_lines : Bool → ℕ → List ℕ → List ℕ
verdict_lines true reached lines = line verdict_is potential ++ lines
verdict_lines false reached lines = line verdict_is unambiguous ++ line reached_is (decimal reached)

-- Q, then the verdict, for a grammar with these names
abbrev pub grammar_lines : Grammar → List (List ℕ) → List ℕ
grammar_lines G names =
    line states_is (decimal (states G))
    ++ verdict_lines (is_potential (moves_of limits G)) (size (moves_of limits G)) (witness_lines G names)

-- for a text: the lines of its grammar, or its refusal's number and position
abbrev pub printed : Answer Source → List ℕ
printed (done s) = grammar_lines (grammar_of s) (symbol_names s)
printed (refused cause at) = line refused_is (decimal (cause_number cause)) ++ line at_is (decimal at)

unfoldable pub report_of : List ℕ → List ℕ
report_of text = printed (judge text)

-- an output of this many bytes, which the program lends, is never too short: 16 bytes for each letter of the two sides, 64 for the rest
abbrev pub report_size : ℕ
report_size = 2 * (16 * triple_count program_states) + 64

-- an output too short is 14 at 0
unfoldable pub report_into : ℕ → List ℕ → Answer (List ℕ)
report_into room text = refuse_unless buffer_too_short 0 (leb (length (report_of text)) room) (done (report_of text))

abbrev pub reported : Answer (List ℕ) → Reported
reported (done l) = Written (length l)
reported (refused cause at) = Refused cause at

-- the promise: the output's front is what the program prints, the rest is unchanged; where the output is too short, all of it is
pub record Reports (text out : List ℕ) (r : Reported) (out' : List ℕ) : Type 0 where
  pub answer : r ≡ reported (report_into (length out) text)
  pub out-after : out' ≡ afterwards (report_into (length out) text) (λ l. l) out
