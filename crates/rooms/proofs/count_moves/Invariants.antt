use mathlib.Core.Path.{◌≡◌}
use Prim.Native.Nat.{◌+◌, ◌*◌, ◌≤◌}
use Rattle.grammar.specs.Limits.{limits}
use Rattle.figures.specs.Sum.{sum}
use Rattle.rooms.specs.Clauses.{moves_at}
use Rattle.rooms.proofs.count_moves.Given as goal

abbrev pub invariant-loop-p : goal.invariant-loop-p
invariant-loop-p l = (l.count ≤ (limits.max_states + 1) * l.p) × (l.count ≡ sum (moves_at l.ahead l.member l.first) l.p)
