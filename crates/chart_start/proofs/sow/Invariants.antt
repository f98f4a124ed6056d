use mathlib.Core.Path.{◌≡◌}
use lib.ListN.{length}
use Rattle.grammar.specs.Limits.{limits}
use Rattle.grammar.specs.Grammar.{Grammar}
use Rattle.tree_laws.specs.Chart.{Places}
use Rattle.chart.specs.Filling.{width, Shows}
use Rattle.chart_start.specs.Sown.{Columned, Sown}
use Rattle.chart_start.proofs.sow.Given as goal

abbrev pub invariant-loop-r : goal.invariant-loop-r
invariant-loop-r l = (length l.work ≡ length l.initial.work)
    × ((G : Grammar) (P : Places limits G) → Shows G P l.rows → Columned G l.g.count l.g.lefts l.g.lengths
    → Sown G P l.rows.states l.rows.home.now (width l.rows) l.initial.work 0 → Sown G P l.rows.states l.rows.home.now (width l.rows) l.work l.r)
