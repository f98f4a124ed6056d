use Prim.Native.Nat.{◌≤◌}
use Rattle.certificate_check.specs.Columns.{Met}
use Rattle.certificate_check.proofs.columns.meet.Given as goal

abbrev pub invariant-loop-k : goal.invariant-loop-k
invariant-loop-k l = (l.k ≤ l.span) × Met l.bytes l.targets l.q l.from l.k l.base l.w
