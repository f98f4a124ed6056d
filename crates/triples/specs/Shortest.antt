-- The shortest witness.
-- Source: document 02, [1] ("the fewest entries possible; among those of equal length, the one whose first differing index is
-- smaller"). Assumes nothing.
use Rattle.std.specs.Prelude.{ℕ, zero, suc, ◌<◌, ◌≡◌, ◌⊎◌, List, [], ◌∷◌, eqb, length}
use Rattle.std.proofs.Math.Option.{Option, none, some}
use Rattle.grammar.specs.Basics.{choose}
use Rattle.automaton.specs.Automaton.{Automaton}
use Rattle.automaton.specs.Moves.{Moves}
use Rattle.triples.specs.Index.{index, triple_count}
use Rattle.triples.specs.Smallest.{successors}
use Rattle.triples.specs.Witness.{Witness}

-- of two rows the first has the smaller index where they first differ
abbrev pub Lower : List ℕ → List ℕ → Type 0
Lower [] v = ⊥
Lower (i ∷ u) [] = ⊥
Lower (i ∷ u) (j ∷ v) = (i < j) ⊎ ((i ≡ j) × Lower u v)

-- it has fewer entries, or as many and the smaller index where they first differ
abbrev pub ComesBefore : List ℕ → List ℕ → Type 0
ComesBefore u v = (length u < length v) ⊎ ((length u ≡ length v) × Lower u v)

-- the witness of an automaton that comes before every other one
pub record ShortestWitness (A : Automaton) (row : List ℕ) : Type 0 where
  pub witness : Witness A row
  pub least : (other : List ℕ) → Witness A other → (row ≡ other) ⊎ ComesBefore row other

-- the row with an index in front, if there is one
abbrev pub in_front : ℕ → Option (List ℕ) → Option (List ℕ)
in_front j none = none
in_front j (some w) = some (j ∷ w)

-- the first row that there is
abbrev pub or_else : Option (List ℕ) → Option (List ℕ) → Option (List ℕ)
or_else none b = b
or_else (some w) b = some w

-- the first row that f gives for an index of a list, with that index in front
unfoldable pub first_row : (ℕ → Option (List ℕ)) → List ℕ → Option (List ℕ)
first_row f [] = none
first_row f (j ∷ js) = or_else (in_front j (f j)) (first_row f js)

module _ (next : ℕ → List ℕ) (goal : ℕ) where
  -- m further indices from i to the goal, each of `next` of the one before: the first such row by the order of `next`
  unfoldable pub row_of : ℕ → ℕ → Option (List ℕ)
  row_of zero i = choose (eqb i goal) (some []) none
  row_of (suc m) i = first_row (row_of m) (next i)

  -- the same with as few indices as there can be, from m on, with `more` trials
  unfoldable pub fewest : ℕ → ℕ → ℕ → Option (List ℕ)
  fewest zero m i = none
  fewest (suc more) m i = let later = fewest more (suc m) i in or_else (row_of m i) later

-- a row, or nothing where there is none
abbrev pub row_or_none : Option (List ℕ) → List ℕ
row_or_none none = []
row_or_none (some w) = w

-- the shortest witness, computed, where there is one
unfoldable pub shortest : Moves → List ℕ
shortest M = row_or_none (in_front 0 (fewest (successors M) (index M.states 1 1 1) (triple_count M.states) 0 0))
