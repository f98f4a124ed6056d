-- What the entries over triples begin with: a refusal up to [11]'s 8, or rows that show the moves of the table's grammar with m callers.
-- Assumes nothing.
use Rattle.std.specs.Prelude.{ℕ, ◌≤◌, ◌≡◌, true, List, length}
use Rattle.grammar.specs.Limits.{limits}
use Rattle.grammar.specs.Grammar.{Grammar}
use Rattle.grammar.specs.Live.{is_live}
use Rattle.grammar.specs.Refusal.{done, refused}
use Rattle.grammar.specs.declared.TableVerdict.TheVariants.{Passed, Refused}
use Rattle.grammar.specs.declared.Cause.{Cause}
use Rattle.automaton.specs.Moves.{Moves, Regular}
use Rattle.automaton.specs.Callers.{check_callers, check_with}
use Rattle.automaton.specs.CallerMoves.{moves_with}
use Rattle.live.specs.Lent.{ColumnsOf}
use Rattle.moves.specs.Tables.{Tables}
use Rattle.moves.specs.Shows.{Shows}
use Rattle.prepared.specs.declared.Prepared.{Prepared}

-- a number of states that fits
pub record Sized (Q : ℕ) : Type 0 where
  pub least : 4 ≤ Q
  pub most : Q ≤ limits.max_states

-- the rows show an automaton's moves, and Q is its number of states
pub record RowsOf (M : Moves) (w : Prepared) (rows : Tables) : Type 0 where
  pub regular : Regular M
  pub size : w.states ≡ M.states
  pub shows : Shows M w.terminals w.kinds rows
  pub long : length rows.targets ≡ limits.max_states

-- t, n, Q and the columns are those of a grammar with a sentence
pub record IsChecked (G : Grammar) (t n q count used : ℕ) (lefts lengths codes : List ℕ) : Type 0 where
  pub columns : ColumnsOf G n q count used lefts lengths codes
  pub terminals : t ≡ G.terminals
  pub sentence : is_live limits G 0 ≡ true

-- 21 or 8, or the rows of a grammar with m callers
pub record PreparesFor (G : Grammar) (m : ℕ) (w : Prepared) (rows : Tables) : Type 0 where
  pub sized : Sized w.states
  pub refused_as : (cause : Cause) (at : ℕ) → w.verdict ≡ Refused cause at → check_callers limits G m ≡ refused cause at
  pub passed_as : w.verdict ≡ Passed → (check_callers limits G m ≡ done G) × RowsOf (moves_with limits G m) w rows

-- a refusal up to [11]'s 8, or the rows of the table's grammar with m callers
pub record Prepares (t n : ℕ) (table : List ℕ) (m : ℕ) (w : Prepared) (rows : Tables) : Type 0 where
  pub sized : Sized w.states
  pub refused_as : (cause : Cause) (at : ℕ) → w.verdict ≡ Refused cause at → check_with limits t n table m ≡ refused cause at
  pub passed_as : w.verdict ≡ Passed → (G : Grammar) × (check_with limits t n table m ≡ done G) × RowsOf (moves_with limits G m) w rows
