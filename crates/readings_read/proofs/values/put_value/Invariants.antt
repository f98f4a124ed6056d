use Prim.Native.Nat.{◌≤◌, ◌-◌}
use mathlib.Core.List.{map}
use lib.ListN.{length, drop}
use Rattle.text.specs.Pieces.{split_on}
use Rattle.text.specs.Spelled.{spelled}
use Rattle.readings.specs.Readings.{pieces_of}
use Rattle.readings_read.specs.Words.{entry_at}
use Rattle.readings_read.proofs.Passes.{Writing}
use Rattle.readings_read.proofs.values.put_value.Given as goal

abbrev pub invariant-loop-t : goal.invariant-loop-t
invariant-loop-t l = (l.a ≤ length l.v) × (l.j ≤ l.a)
    × Writing (map (entry_at l.t l.count (spelled l.text l.starts l.lengths)) (pieces_of l.v)) l.initial.row l.j l.row (map (entry_at l.t l.count (spelled l.text l.starts l.lengths)) (split_on 32 (drop l.a l.v)))

abbrev pub decreases-loop-t : goal.decreases-loop-t
decreases-loop-t l = length l.v - l.a
