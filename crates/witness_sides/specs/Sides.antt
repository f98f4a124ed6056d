-- What the walk along a row of indices promises: the letters of its two sides, as entries of two rows. Assumes nothing.
use Rattle.std.specs.Prelude.{ℕ, ◌≤◌, ◌≡◌, List, map, length, take}
use Rattle.grammar.specs.Limits.{limits}
use Rattle.grammar.specs.Grammar.{Grammar}
use Rattle.grammar.specs.Refusal.{done}
use Rattle.grammar.specs.TableCheck.{check_table}
use Rattle.automaton.specs.Moves.{Moves}
use Rattle.automaton.specs.PositionMoves.{moves_of}
use Rattle.triples.specs.Sides.{OneEach, left_side, right_side}
use Rattle.readings.specs.Letters.{letter_number}
use Rattle.witness_sides.specs.declared.Lengths.{Lengths}

-- a table that passes, a row of indices each of which has one record that leads to the next, and room for a letter of each step
pub record Walkable (t n : ℕ) (table row left right : List ℕ) : Type 0 where
  pub grammar : Grammar
  pub passes : check_table limits t n table ≡ done grammar
  pub one : OneEach (moves_of limits grammar) row
  pub left-room : length row ≤ length left
  pub right-room : length row ≤ length right

-- the letters of the sides of a row stand at the fronts of two rows
pub record TwoSides (M : Moves) (row : List ℕ) (r : Lengths) (left right : List ℕ) : Type 0 where
  pub left-length : r.left ≡ length (left_side M row)
  pub right-length : r.right ≡ length (right_side M row)
  pub left-front : take r.left left ≡ map letter_number (left_side M row)
  pub right-front : take r.right right ≡ map letter_number (right_side M row)
  pub left_fits : r.left ≤ length left
  pub right_fits : r.right ≤ length right

-- so for the grammar of a table
abbrev pub Walks : ℕ → ℕ → List ℕ → List ℕ → Lengths → List ℕ → List ℕ → Type 0
Walks t n table row r left right = (G : Grammar) → check_table limits t n table ≡ done G → TwoSides (moves_of limits G) row r left right
