use Prim.Native.Nat.{suc}
use mathlib.Core.Path.{◌≡◌}
use lib.ListN.{length}
use Rattle.grammar.specs.Limits.{limits}
use Rattle.grammar.specs.Grammar.{Grammar}
use Rattle.tree_laws.specs.Chart.{Places}
use Rattle.chart.specs.Filling.{Shows, Filled}
use Rattle.chart_fill.proofs.column.Given as goal

abbrev pub invariant-loop-i : goal.invariant-loop-i
invariant-loop-i l = (length l.work ≡ length l.initial.work)
    × ((G : Grammar) (P : Places limits G) → Shows G P l.rows → Filled G P l.rows.states l.rows.home.now l.rows.sentence.now l.initial.work l.initial.active (suc l.j) l.j
    → Filled G P l.rows.states l.rows.home.now l.rows.sentence.now l.work l.active l.i l.j)
