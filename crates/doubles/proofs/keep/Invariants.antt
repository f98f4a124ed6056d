use Rattle.std.proofs.Common.{◌+◌, ◌≤◌, take}
use Rattle.doubles.specs.Blocks.{Block}
use Rattle.doubles.proofs.keep.Given as goal

abbrev pub invariant-loop-k : goal.invariant-loop-k
invariant-loop-k l = record { onward : l.a + l.k ≤ l.next; kept : Block l.v l.a (take l.k l.starts) (take l.k l.lengths) l.next }
