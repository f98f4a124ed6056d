-- The figure that the search reports: how many successors there are to look at in the set reached, and what that never exceeds.
-- Source: document 02, [6] ("the number of move choices that give a successor, each choice counted, summed over the triples of the set
-- reached"; "at most M² + 2×Q×M"). Assumes nothing.
use Rattle.std.specs.Prelude.{ℕ, ◌+◌, ◌*◌, List, [], ◌∷◌, length}
use Rattle.automaton.specs.Moves.{Moves}
use Rattle.automaton.specs.AllMoves.{move_count}
use Rattle.triples.specs.Smallest.{successors, smallest}

-- the sum of f over a list
unfoldable pub total : (ℕ → ℕ) → List ℕ → ℕ
total f [] = 0
total f (i ∷ is) = f i + total f is

module _ (M : Moves) where
  -- the sum over the set reached of the number of successors, of which each choice of moves gives one
  unfoldable pub looked_at : ℕ
  looked_at = total (λ i. length (successors M i)) (smallest M)

  -- M² + 2×Q×M
  abbrev pub looked_limit : ℕ
  looked_limit = move_count M * move_count M + 2 * (M.states * move_count M)
