-- What the contracts of the inner functions say. Assumes nothing.
use Rattle.std.specs.Prelude.{ℕ, ◌≡◌, List}
use Rattle.grammar.specs.Limits.{limits}
use Rattle.grammar.specs.Grammar.{Grammar}
use Rattle.grammar.specs.Refusal.{done, refused}
use Rattle.grammar.specs.declared.TableVerdict.TheVariants.{Passed, Refused}
use Rattle.grammar.specs.declared.Cause.{Cause}
use Rattle.automaton.specs.Moves.{Moves}
use Rattle.automaton.specs.Callers.{check_with}
use Rattle.automaton.specs.CallerMoves.{moves_with}
use Rattle.prepared.specs.Prepared.{Sized}
use Rattle.witness_check.specs.Clauses.{Ready}
use Rattle.witness_records.specs.declared.Board.{Board}

-- the rows are an automaton's
abbrev pub ReadyFor : Moves → Board → Type 0
ReadyFor M w = Ready M w.ahead w.after w.number w.member w.target w.terminals w.opening w.states

-- a refusal up to [11]'s 8, or the rows of the table's grammar with m callers
pub record Begun (t n : ℕ) (table : List ℕ) (m : ℕ) (w : Board) : Type 0 where
  pub sized : Sized w.states
  pub stops : (cause : Cause) (at : ℕ) → check_with limits t n table m ≡ refused cause at → w.verdict ≡ Refused cause at
  pub goes : (G : Grammar) → check_with limits t n table m ≡ done G → (w.verdict ≡ Passed) × ReadyFor (moves_with limits G m) w
