use mathlib.Core.Path.{◌≡◌}
use Prim.Native.Nat.{◌*◌, ◌≤◌}
use lib.ListN.{get_or}
use Rattle.certificate_check.specs.Columns.{span_of, RowTo}
use Rattle.certificate_check.proofs.columns.row_held.Given as goal

abbrev pub invariant-loop-k : goal.invariant-loop-k
invariant-loop-k l = (l.k ≤ l.span) × (l.from ≡ get_or l.first l.kind 0) × (l.span ≡ span_of l.first l.kind) × (l.base ≡ l.row * l.q) × RowTo l.first l.targets l.q l.bytes l.kind l.row l.k
