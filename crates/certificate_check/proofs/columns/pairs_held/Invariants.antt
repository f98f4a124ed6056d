use mathlib.Core.Path.{◌≡◌}
use Prim.Native.Nat.{◌-◌, ◌≤◌}
use lib.ListN.{get_or}
use Rattle.certificate_check.specs.Columns.{span_of, PairsTo}
use Rattle.certificate_check.proofs.columns.pairs_held.Given as goal

abbrev pub invariant-loop-k : goal.invariant-loop-k
invariant-loop-k l = (l.k ≤ l.span) × (l.rows ≡ get_or l.first l.left 0) × (l.height ≡ span_of l.first l.left) × (l.from ≡ get_or l.first l.right 0) × (l.span ≡ span_of l.first l.right) × PairsTo l.first l.targets l.q l.bytes l.left l.right l.k

abbrev pub decreases-loop-k : goal.decreases-loop-k
decreases-loop-k l = l.span - l.k
