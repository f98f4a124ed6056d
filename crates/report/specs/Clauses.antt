-- What the contracts of the report's inner functions say. The public entry cites Report.antt alone. Assumes nothing.
use Rattle.std.specs.Prelude.{ℕ, ◌+◌, ◌*◌, ◌≤◌, ◌≡◌, true, List, [], ◌++◌, length}
use Rattle.grammar.specs.Limits.{limits}
use Rattle.grammar.specs.Grammar.{Grammar}
use Rattle.grammar.specs.Refusal.{Answer, done, refused, cause_number}
use Rattle.grammar.specs.declared.Cause.{Cause}
use Rattle.grammar.specs.TableCheck.{check_table}
use Rattle.automaton.specs.Items.{states}
use Rattle.automaton.specs.PositionMoves.{moves_of}
use Rattle.triples.specs.Index.{triple_count}
use Rattle.triples.specs.Shortest.{shortest}
use Rattle.text.specs.Numbers.{decimal}
use Rattle.readings_write.specs.Clauses.{Named, word_room, keys_room}
use Rattle.search.specs.Promise.{is_potential}
use Rattle.report.specs.Report.{program_states, line, states_is, verdict_is, reached_is, refused_is, at_is, unambiguous, potential, witness_lines, grammar_lines, report_size}

-- the lines of each answer
abbrev pub unambiguous_lines : ℕ → ℕ → List ℕ
unambiguous_lines q reached = line states_is (decimal q) ++ (line verdict_is unambiguous ++ line reached_is (decimal reached))

abbrev pub potential_lines : ℕ → List ℕ
potential_lines q = line states_is (decimal q) ++ line verdict_is potential

abbrev pub refused_lines : Cause → ℕ → List ℕ
refused_lines cause at = line refused_is (decimal (cause_number cause)) ++ line at_is (decimal at)

-- a table that passes, of q states, which are not too many for the program, with names for its symbols
pub record Tellable (t n : ℕ) (table : List ℕ) (q : ℕ) (text starts lengths : List ℕ) : Type 0 where
  pub grammar : Grammar
  pub passes : check_table limits t n table ≡ done grammar
  pub counted : states grammar ≡ q
  pub few : q ≤ program_states
  pub names : Named t n (length grammar.rules) text starts lengths

-- and so many bytes for the lines of the two sides of its shortest witness from place `at` on
pub record Speakable (t n : ℕ) (table : List ℕ) (q : ℕ) (text starts lengths row : List ℕ) (at : ℕ) (out : List ℕ) : Type 0 where
  pub told : Tellable t n table q text starts lengths
  pub potential : is_potential (moves_of limits told.grammar) ≡ true
  pub shortest-row : row ≡ shortest (moves_of limits told.grammar)
  pub room : at + (2 * (word_room * triple_count program_states) + keys_room) ≤ length out

-- the lines of the grammar of a table, and those of its shortest witness
abbrev pub table_lines : Answer Grammar → List (List ℕ) → List ℕ
table_lines (done G) names = grammar_lines G names
table_lines (refused cause at) names = []

abbrev pub sides_lines : Answer Grammar → List (List ℕ) → List ℕ
sides_lines (done G) names = witness_lines G names
sides_lines (refused cause at) names = []
