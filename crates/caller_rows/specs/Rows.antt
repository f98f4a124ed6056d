-- What the crate's entry is asked for and promises: rows that show the moves with m callers. Source: document 02, [11].
-- Assumes nothing.
use Rattle.std.specs.Prelude.{ℕ, ◌≤◌, ◌<◌, ◌≡◌, true, List, length}
use Rattle.grammar.specs.Basics.{over}
use Rattle.grammar.specs.Limits.{limits}
use Rattle.grammar.specs.Grammar.{Grammar}
use Rattle.grammar.specs.Live.{is_live}
use Rattle.automaton.specs.PositionMoves.{ahead_row}
use Rattle.automaton.specs.CallerMoves.{moves_at}
use Rattle.live.specs.Lent.{ColumnsOf}
use Rattle.moves.specs.Tables.{Tables}
use Rattle.moves.specs.Shows.{Shows}
use Rattle.caller_rows.specs.declared.Built.{Built}

-- the columns of a grammar with a sentence, and the codes ahead of its items, as crate moves writes them over the front of a row
pub record Begun (G : Grammar) (n q count used : ℕ) (lefts lengths codes ahead : List ℕ) : Type 0 where
  pub columns : ColumnsOf G n q count used lefts lengths codes
  pub sentence : is_live limits G 0 ≡ true
  pub old : List ℕ
  pub items : ahead ≡ over (ahead_row limits G (is_live limits G)) old

-- the rows show the moves with m callers if these have no more states than the limit
pub record BuiltWith (G : Grammar) (m : ℕ) (b : Built) (rows : Tables) : Type 0 where
  pub fits : b.states ≤ limits.max_states
      → (b.states ≡ (moves_at limits G m).states) × Shows (moves_at limits G m) G.terminals b.kinds rows × (length rows.targets ≡ limits.max_states)
  pub many : limits.max_states < b.states → limits.max_states < (moves_at limits G m).states
