-- The two sides of a row of indices, as strings. Source: document 02, [2] ("each gives that side of the witness"). Assumes nothing.
use Rattle.std.specs.Prelude.{ℕ, ◌≡◌, List, [], ◌∷◌, ◌++◌, eqb}
use Rattle.grammar.specs.Basics.{when, each}
use Rattle.automaton.specs.Moves.{Moves}
use Rattle.automaton.specs.Strings.{Letter, opening, closing, symbol}
use Rattle.triples.specs.Index.{layer_of, left_of, right_of}
use Rattle.triples.specs.Records.{next_index, records}
use Rattle.triples.specs.declared.Move.{Move}
use Rattle.triples.specs.declared.Move.TheVariants.{Opening, Closing, Symbol, Still}
use Rattle.triples.specs.declared.Step.{Step}

-- the letter of a move; none where the side stays
abbrev pub letters : Move → List Letter
letters (Opening i) = opening i ∷ []
letters (Closing i) = closing i ∷ []
letters (Symbol x) = symbol x ∷ []
letters Still = []

module _ (M : Moves) where
  -- the step records of index i that lead to index j
  unfoldable pub records_to : ℕ → ℕ → List Step
  records_to i j =
      each (records M (layer_of M.states i) (left_of M.states i) (right_of M.states i)) (λ s. when (eqb (next_index M s) j) (s ∷ []))

  -- the letters by which a side of a row moves, step by step; meant for rows with one record for each step (`OneEach`)
  unfoldable pub side_of : (Step → Move) → List ℕ → List Letter
  side_of side [] = []
  side_of side (i ∷ []) = []
  side_of side (i ∷ j ∷ row) = each (records_to i j) (λ s. letters (side s)) ++ side_of side (j ∷ row)

  -- each index of a row but the last has just one step record that leads to the next
  abbrev pub OneEach : List ℕ → Type 0
  OneEach [] = Unit {0}
  OneEach (i ∷ []) = Unit {0}
  OneEach (i ∷ j ∷ row) = ((s : Step) × (records_to i j ≡ s ∷ [])) × OneEach (j ∷ row)

  abbrev pub left_side : List ℕ → List Letter
  left_side row = side_of (λ s. s.on_left) row

  abbrev pub right_side : List ℕ → List Letter
  right_side row = side_of (λ s. s.on_right) row
