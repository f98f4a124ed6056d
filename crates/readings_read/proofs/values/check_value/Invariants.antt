use Rattle.std.proofs.Common.{◌≤◌, ◌-◌, length, drop}
use Rattle.text.specs.Pieces.{space, split_on}
use Rattle.text.specs.Spelled.{spelled}
use Rattle.readings_read.proofs.Passes.{Checking}
use Rattle.readings_read.proofs.values.check_value.Given as goal

abbrev pub invariant-loop-fault : goal.invariant-loop-fault
invariant-loop-fault l = (l.a ≤ length l.v) × (l.k ≤ l.a)
    × Checking l.t l.count (spelled l.text l.starts l.lengths) l.v l.fault l.k (split_on space (drop l.a l.v))

abbrev pub decreases-loop-fault : goal.decreases-loop-fault
decreases-loop-fault l = length l.v - l.a
