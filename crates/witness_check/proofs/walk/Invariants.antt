use mathlib.Core.Path.{◌≡◌}
use Prim.Native.Nat.{◌≤◌, ◌<◌}
use lib.ListN.{length, drop}
use Rattle.automaton.specs.Moves.{Moves}
use Rattle.triples.specs.Index.{triple_count}
use Rattle.triples.specs.Witness.{check_on, check_row}
use Rattle.witness_check.specs.Clauses.{Ready}
use Rattle.witness_check.proofs.walk.Given as goal

abbrev pub invariant-loop-place : goal.invariant-loop-place
invariant-loop-place l = (1 ≤ l.place) × (l.place ≤ length l.row) × (l.last < triple_count l.q)
    × ((M : Moves) → Ready M l.ahead l.after l.number l.member l.target l.t l.m l.q → check_on M l.last l.place (drop l.place l.row) ≡ check_row M l.row)
