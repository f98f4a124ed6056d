use Rattle.chart.specs.Filling.{width}
use Rattle.chart_start.specs.Sown.{Diagonal}
use Rattle.chart_start.proofs.diagonal.Given as goal

abbrev pub invariant-loop-i : goal.invariant-loop-i
invariant-loop-i l = Diagonal (width l.rows) l.h l.i l.initial.work l.work
