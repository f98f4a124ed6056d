use Prim.Native.Nat.{◌≤◌, ◌<◌, ◌+◌, ◌-◌}
use lib.ListN.{length, drop}
use Rattle.text.specs.Pieces.{split_on}
use Rattle.text.specs.Spelled.{spelled}
use Rattle.text_read.proofs.Codes.{Looking}
use Rattle.text_read.proofs.rules.take_codes.Given as goal

abbrev pub invariant-loop-t : goal.invariant-loop-t
invariant-loop-t l = (0 < length l.r) × (1 ≤ l.a) × (l.a ≤ length l.r) × (l.j + 1 ≤ l.at + l.a) × Looking l.t (spelled l.text l.starts l.lengths) (split_on 32 (drop 1 l.r)) l.at l.initial.row l.j l.row (split_on 32 (drop l.a l.r))

abbrev pub decreases-loop-t : goal.decreases-loop-t
decreases-loop-t l = length l.r - l.a
