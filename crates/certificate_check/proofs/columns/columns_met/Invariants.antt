use Prim.Native.Nat.{◌≤◌}
use Rattle.certificate_check.specs.Columns.{ColumnsMet}
use Rattle.certificate_check.proofs.columns.columns_met.Given as goal

abbrev pub invariant-loop-h : goal.invariant-loop-h
invariant-loop-h l = (l.h ≤ l.span) × ColumnsMet l.targets l.near l.begin l.from l.k l.h
