use mathlib.Core.List.{map}
use Rattle.automaton.specs.Moves.{Moves}
use Rattle.triples.specs.Witness.{entry_of}
use Rattle.witness_records.specs.Records.{triples}
use Rattle.witness_records.specs.Clauses.{ReadyFor}
use Rattle.witness_records.proofs.Walks.{Stands}
use Rattle.witness_records.proofs.check_witness_records.Given as goal

abbrev pub invariant-loop-place : goal.invariant-loop-place
invariant-loop-place l = (M : Moves) → ReadyFor M l.w → Stands M l.w (map (entry_of l.w.states) (triples l.entries)) l.last l.place
