use Rattle.chart_rows.proofs.Turns.{WiredTo}
use Rattle.chart_rows.proofs.wire.Given as goal

abbrev pub invariant-loop-p : goal.invariant-loop-p
invariant-loop-p l = WiredTo l.ahead l.member l.target l.n l.initial.lead l.initial.next l.initial.head l.initial.home l.lead l.next l.head l.home l.p
