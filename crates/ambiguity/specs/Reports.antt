-- What follows from the promise of the report. Source: document 01; document 02, [2]. Assumes nothing.
use Rattle.std.specs.Prelude.{ℕ, ◌≤◌, ◌≡◌, List, ◌++◌, map, ◌↔◌, length, take}
use Rattle.grammar.specs.Basics.{over}
use Rattle.grammar.specs.Limits.{limits}
use Rattle.grammar.specs.Grammar.{Grammar, WellFormed}
use Rattle.grammar.specs.Refusal.{done}
use Rattle.automaton.specs.Strings.{Potential, Unambiguous}
use Rattle.automaton.specs.Items.{states}
use Rattle.automaton.specs.Position.{position}
use Rattle.automaton.specs.PositionMoves.{moves_of}
use Rattle.triples.specs.Index.{triple_count}
use Rattle.triples.specs.Smallest.{size}
use Rattle.text.specs.Numbers.{decimal}
use Rattle.text.specs.Read.{Source, grammar_of}
use Rattle.readings.specs.Letters.{letter_number}
use Rattle.readings.specs.Promise.{ReadsBack}
use Rattle.readings.specs.declared.ReadBack.{ReadBack}
use Rattle.readings.specs.declared.ReadBack.TheVariants.{Read}
use Rattle.report.specs.Report as report
use Rattle.report.specs.declared.Reported.{Reported}
use Rattle.report.specs.declared.Reported.TheVariants as reported
use Rattle.ambiguity.specs.Readings.{left, right, IsString, lines_of, strings_of, SidesTheorems}

-- what the program prints for a text that is judged; G is its grammar
pub record ReportLines (s : Source) (G : Grammar) (lines : List ℕ) : Type 0 where
  -- demand 2: potential precisely when two strings part; then with the two sides of the shortest witness
  pub potential : (lines ≡ report.line report.states_is (decimal (states G)) ++ (report.line report.verdict_is report.potential ++ lines_of s (left G) (right G)))
      ↔ Potential (position limits G)
  -- which are strings of the grammar's letters, are read back from the two lines, are determined, and part
  pub strings : Potential (position limits G) → IsString s (left G) × IsString s (right G)
  pub back : Potential (position limits G) → strings_of s (lines_of s (left G) (right G)) ≡ done (left G, right G)
  pub sides : Potential (position limits G) → SidesTheorems G
  -- and otherwise unambiguous, with the computed size of the smallest closed set, which is the number of triples reached
  -- (specs/Automata.antt)
  pub otherwise : Unambiguous (position limits G) → lines ≡ report.line report.states_is (decimal (states G))
      ++ (report.line report.verdict_is report.unambiguous ++ report.line report.reached_is (decimal (size (moves_of limits G))))

-- read back by this text into rows of 2Q² entries or more, these lines give the two sides of the shortest witness
abbrev pub GiveSides : List ℕ → List ℕ → Grammar → Type 0
GiveSides text lines G = (a b : List ℕ) (r : ReadBack) (a' b' : List ℕ) → ReadsBack text lines a b r a' b'
    → triple_count (states G) ≤ length a → triple_count (states G) ≤ length b
    → (r ≡ Read (length (left G)) (length (right G))) × (a' ≡ over (map letter_number (left G)) a) × (b' ≡ over (map letter_number (right G)) b)

pub record ReportTheorems (text out : List ℕ) (r : Reported) (out' : List ℕ) : Type 0 where
  -- an output of this many bytes is never too short: its front is what the program prints, the rest is unchanged
  pub written : report.report_size ≤ length out
      → (r ≡ reported.Written (length (report.report_of text))) × (out' ≡ over (report.report_of text) out)
  -- the lines of a text that passes the reader and the program's limits
  pub lines : (s : Source) → report.judge text ≡ done s
      → WellFormed limits (grammar_of s) × ReportLines s (grammar_of s) (report.report_of text)
  -- document 02, [2], over what report and read_back promise: where a first line with q and a potential verdict
  -- were written, the text passes, q is its number of states, and what was written past the verdict's line is
  -- read back as the two sides
  pub reads_back : (k q : ℕ) (rest : List ℕ) → r ≡ reported.Written k
      → take k out' ≡ report.line report.states_is (decimal q) ++ (report.line report.verdict_is report.potential ++ rest)
      → (s : Source) × (report.judge text ≡ done s) × (states (grammar_of s) ≡ q) × GiveSides text rest (grammar_of s)
