use Rattle.std.proofs.Common.{◌≡◌, ◌≤◌, drop}
use Rattle.readings_read.specs.Words.{mark_piece}
use Rattle.readings_read.proofs.Marks.{mark_from}
use Rattle.readings_read.proofs.pieces.mark.Given as goal

abbrev pub invariant-loop-b : goal.invariant-loop-b
invariant-loop-b l = (l.x ≤ l.count) × (mark_piece l.kind l.count l.s ≡ mark_from l.kind l.count l.x (drop l.b-index l.s))
