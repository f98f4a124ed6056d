use Prim.Native.Nat.{suc}
use mathlib.Core.Path.{◌≡◌}
use lib.ListN.{length}
use Rattle.grammar.specs.Limits.{limits}
use Rattle.grammar.specs.Grammar.{Grammar}
use Rattle.tree_laws.specs.Chart.{Places}
use Rattle.chart.specs.Filling.{Shows, Filled, Begun}
use Rattle.chart_fill.proofs.fill.Given as goal

abbrev pub invariant-loop-j : goal.invariant-loop-j
invariant-loop-j l = (length l.work ≡ length l.initial.work)
    × ((G : Grammar) (P : Places limits G) → Shows G P l.rows → Begun G P l.rows.states l.rows.home.now l.rows.sentence.now l.initial.work
    → Filled G P l.rows.states l.rows.home.now l.rows.sentence.now l.work l.marks (suc l.j) l.j)
