use mathlib.Core.List.{[], ◌∷◌}
use Rattle.moves.specs.Tables.{kept}
use Rattle.moves.proofs.Writes.{Writing}
use Rattle.moves.proofs.writing.write_items.Given as goal

abbrev pub invariant-loop-d : goal.invariant-loop-d
invariant-loop-d l = Writing (kept l.live) l.codes (0 ∷ []) l.at l.initial.ahead l.ahead l.d × Writing (λ x. l.i) l.codes (l.i ∷ []) l.at l.initial.number l.number l.d
