use Prim.Native.Nat.{ℕ, ◌<◌}
use mathlib.Core.Path.{◌≡◌}
use mathlib.Core.List.{List}
use lib.ListN.{length, take}
use Rattle.automaton.specs.Moves.{Moves}
use Rattle.triples.specs.Sides.{OneEach, left_side, right_side}
use Rattle.steps.specs.Plan.{Rows, rows_of}
use Rattle.witness_sides.specs.Clauses.{FrontLetters, GivesRecords}
use Rattle.witness_sides.proofs.walk.Given as goal

-- the letters of the steps to the entries before x stand at the fronts
abbrev pub Fronts : Rows → ℕ → List ℕ → ℕ → ℕ → List ℕ → ℕ → List ℕ → Type 0
Fronts R Q row x lefts left rights right = (M : Moves) → GivesRecords M R Q → OneEach M row
    → FrontLetters (left_side M (take x row)) lefts left × FrontLetters (right_side M (take x row)) rights right

abbrev pub invariant-loop-x : goal.invariant-loop-x
invariant-loop-x l = (length l.left ≡ length l.initial.left) × (length l.right ≡ length l.initial.right) × (l.lefts < l.x) × (l.rights < l.x)
    × Fronts (rows_of l.ahead l.number l.member l.first l.after l.targets l.t l.m) l.q l.row l.x l.lefts l.left l.rights l.right
