use mathlib.Core.Path.{◌≡◌}
use Prim.Native.Nat.{◌-◌}
use Rattle.text.specs.Print.{gather}
use Rattle.text_write.specs.Clauses.{stops_at}
use Rattle.text_write.proofs.lent.first_bad.Given as goal

abbrev pub invariant-loop-i : goal.invariant-loop-i
invariant-loop-i l = stops_at l.m (gather l.bytes l.starts l.lengths l.i (l.m - l.i)) ≡ stops_at l.m (gather l.bytes l.starts l.lengths 0 l.m)
