use Prim.Native.Nat.{◌+◌, ◌*◌}
use mathlib.Core.List.{[], ◌∷◌}
use Rattle.grammar.specs.Limits.{limits}
use Rattle.moves.specs.Tables.{class_of, kept}
use Rattle.moves.proofs.Writes.{Writing}
use Rattle.moves.proofs.writing.write_classes.Given as goal

abbrev pub invariant-loop-d : goal.invariant-loop-d
invariant-loop-d l = Writing (λ x. class_of limits l.m (2 * l.m) (kept l.live x)) l.codes (class_of limits 0 (2 * l.m) (kept l.live l.left) ∷ []) l.at l.initial.member l.member l.d
    × Writing (λ x. class_of limits 0 (2 * l.m + 1) (kept l.live x)) l.codes [] (l.at + 1) l.initial.target l.target l.d
