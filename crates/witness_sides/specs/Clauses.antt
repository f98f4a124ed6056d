-- What the contracts of the inner functions say. Assumes nothing.
use Rattle.std.specs.Prelude.{ℕ, ◌≤◌, ◌<◌, ◌≡◌, List, [], ◌∷◌, ◌++◌, map, eqb, length, take, Option, Some, None}
use Rattle.grammar.specs.Basics.{when, each}
use Rattle.grammar.specs.Limits.{limits}
use Rattle.automaton.specs.Moves.{Moves}
use Rattle.automaton.specs.Strings.{Letter, opening, closing, symbol}
use Rattle.triples.specs.Index.{index, layer_of, left_of, right_of}
use Rattle.triples.specs.Records.{records}
use Rattle.triples.specs.Sides.{OneEach, letters}
use Rattle.triples.specs.declared.Move.{Move}
use Rattle.triples.specs.declared.Move.TheVariants.{Opening, Closing, Symbol, Still}
use Rattle.triples.specs.declared.Step.{Step}
use Rattle.readings.specs.Letters.{letter_number}
use Rattle.steps.specs.Plan.{Rows, Laid, planned}
use Rattle.witness_sides.specs.declared.Lengths.{Lengths}
use Rattle.witness_sides.specs.Sides.{TwoSides}

-- ---- letters

-- the entry of a move's letter, if it has one
abbrev pub move_entry : Move → Option ℕ
move_entry (Opening i) = Some (letter_number (opening i))
move_entry (Closing i) = Some (letter_number (closing i))
move_entry (Symbol x) = Some (letter_number (symbol x))
move_entry Still = None

-- these letters, so many, stand at the front of a row
pub record FrontLetters (u : List Letter) (count : ℕ) (row : List ℕ) : Type 0 where
  pub long : count ≡ length u
  pub front : take count row ≡ map letter_number u
  pub fits : count ≤ length row

-- the letter of a move, if any, stands after those that stood there
abbrev pub Appended : Move → ℕ → List ℕ → ℕ → List ℕ → Type 0
Appended m count old r new = (u : List Letter) → FrontLetters u count old → FrontLetters (u ++ letters m) r new

-- ---- the record that leads to an index

-- the records that lead to index j, among Q states
unfoldable pub steps_to : ℕ → List Step → ℕ → List Step
steps_to Q l j = each l (λ s. when (eqb (index Q s.layer s.left s.right) j) (s ∷ []))

-- the first of them, if there is one
abbrev pub first_of : List Step → Option Step
first_of [] = None
first_of (s ∷ l) = Some s

-- the records of index i, from the rows
abbrev pub records_at : Rows → ℕ → ℕ → List Step
records_at R Q i = planned R (layer_of Q i) (left_of Q i) (right_of Q i)

abbrev pub step_found : Rows → ℕ → ℕ → ℕ → Option Step
step_found R Q i j = first_of (steps_to Q (records_at R Q i) j)

-- the targets of Q states are laid out in the rows
pub record Searchable (Q : ℕ) (member first targets : List ℕ) : Type 0 where
  pub least : 0 < Q
  pub most : Q ≤ limits.max_states
  pub laid : (p : ℕ) → p < Q → Laid member first targets p
  pub short : length targets ≤ limits.max_states

-- ---- the walk

-- the rows give the records of an automaton with Q states
pub record GivesRecords (M : Moves) (R : Rows) (Q : ℕ) : Type 0 where
  pub size : Q ≡ M.states
  pub same : (f p q : ℕ) → p < M.states → q < M.states → planned R f p q ≡ records M f p q

-- the sides of the row stand at the fronts, whichever automaton the rows are of
abbrev pub SidesStand : Rows → ℕ → List ℕ → Lengths → List ℕ → List ℕ → Type 0
SidesStand R Q row r left right = (M : Moves) → GivesRecords M R Q → OneEach M row → TwoSides M row r left right
