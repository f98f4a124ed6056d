use mathlib.Core.Path.{◌≡◌}
use Prim.Native.Nat.{◌-◌, ◌≤◌, ◌<◌}
use mathlib.Core.Bool.{true}
use Rattle.triples.specs.Certificate.{is_set}
use Rattle.plans.specs.Plan.{rows}
use Rattle.certificate_check.specs.Columns.{Noted}
use Rattle.certificate_check.proofs.ScanLaws.{HeldTo, NoneBelow}
use Rattle.certificate_check.proofs.scan.lowest_lacking.Given as goal

abbrev pub invariant-loop-k : goal.invariant-loop-k
invariant-loop-k l = (l.answer ≡ l.count) × (l.k ≤ l.plan.total) × HeldTo l.bytes l.plan l.targets l.q l.k

abbrev pub invariant-scan : goal.invariant-scan
invariant-scan l = (l.answer ≡ l.count) × (l.i ≤ l.count) × (l.i < l.count → is_set l.bytes l.i ≡ true) × NoneBelow (rows l.ahead l.number l.member l.first l.after) l.targets l.t l.m l.q l.bytes l.i
    × Noted l.first l.targets l.q l.bytes l.seen

abbrev pub decreases-scan : goal.decreases-scan
decreases-scan l = l.count - l.i
