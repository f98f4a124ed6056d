use Prim.Native.Nat.{◌+◌, ◌-◌, ◌≤◌}
use Rattle.triples.specs.Index.{index}
use Rattle.bits.specs.Windows.{Window}
use Rattle.plans.specs.Plan.{rows}
use Rattle.certificate_check.specs.Columns.{Noted, ClosedFrom}
use Rattle.certificate_check.proofs.columns.columns_closed.Given as goal

abbrev pub invariant-loop-w : goal.invariant-loop-w
invariant-loop-w l = (l.c ≤ l.n) × Window l.bytes (index l.q l.f l.a l.b + l.c) (index l.q l.f l.a l.b + l.n) l.w × ClosedFrom (rows l.ahead l.number l.member l.first l.after) l.targets l.t l.m l.q l.bytes (index l.q l.f l.a l.b) l.c × Noted l.first l.targets l.q l.bytes l.seen

abbrev pub decreases-loop-w : goal.decreases-loop-w
decreases-loop-w l = l.n - l.c
