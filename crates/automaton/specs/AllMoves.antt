-- All moves of an automaton as one list, and their number.
-- Source: document 02, [5] ("the number M of moves in the automaton, nonterminal shifts included"). Assumes nothing.
use Rattle.std.specs.Prelude.{ℕ, zero, suc, List, [], ◌∷◌, ◌++◌, map, ◌↔◌, leb, length}
use Rattle.grammar.specs.Basics.{when, each, Mem, Distinct}
use Rattle.automaton.specs.Automaton.{Automaton}
use Rattle.automaton.specs.Moves.{Moves}
use Rattle.automaton.specs.Strings.{Letter, opening, closing, symbol, MovesBy}

-- the numbers below n, ascending
unfoldable pub numbers : ℕ → List ℕ
numbers zero = []
numbers (suc n) = numbers n ++ (n ∷ [])

-- a move: from a state, by a letter, to a state
pub record Moved : Type 0 where
  pub from : ℕ
  pub by : Letter
  pub to : ℕ

abbrev pub moved : ℕ → Letter → ℕ → Moved
moved p l q = record { from = p; by = l; to = q }

module _ (M : Moves) where
  -- the moves that leave a state: its openings, its closings, and the shift of the symbol ahead, terminal or nonterminal
  unfoldable pub leaving : ℕ → List Moved
  leaving p =
      map (λ m. moved p (opening m.0) m.1) (M.openings p)
      ++ map (λ m. moved p (closing m.0) m.1) (M.closings p)
      ++ when (leb 1 (M.ahead p)) (moved p (symbol (M.ahead p)) (M.after p) ∷ [])

  -- all moves, and document 02's M, their number
  unfoldable pub all_moves : List Moved
  all_moves = each (numbers M.states) leaving

  abbrev pub move_count : ℕ
  move_count = length all_moves

-- a move of an automaton, from a state to a state
pub record MoveOf (A : Automaton) : Type 0 where
  pub from : A.State
  pub by : Letter
  pub to : A.State

-- the list has each move of an automaton once, and no other
pub record ListsMoves (A : Automaton) (l : List (MoveOf A)) : Type 0 where
  pub distinct : Distinct l
  pub moves : (e : MoveOf A) → Mem e l ↔ MovesBy A e.by e.from e.to
