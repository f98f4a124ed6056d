use Prim.Native.Nat.{suc, ◌+◌, ◌*◌, ◌/◌, ◌≤◌}
use mathlib.Core.Path.{◌≡◌}
use lib.ListN.{length}
use Rattle.grammar.specs.Limits.{limits}
use Rattle.grammar.specs.Grammar.{Grammar}
use Rattle.tree_laws.specs.Chart.{Places}
use Rattle.chart.specs.Rows.{slack, block, Covered}
use Rattle.chart.specs.Filling.{Shows, Filled, Working}
use Rattle.chart_fill.proofs.span.Given as goal

abbrev pub invariant-loop-q : goal.invariant-loop-q
invariant-loop-q l = (l.q ≤ l.rows.states)
    × (length l.work ≡ length l.initial.work)
    × ((G : Grammar) (P : Places limits G) → Shows G P l.rows → Filled G P l.rows.states l.rows.home.now l.rows.sentence.now l.initial.work l.initial.active (suc l.i) l.j
    → Working G P l.rows.states l.rows.home.now l.rows.sentence.now l.work l.active l.flags l.q l.i l.j × Covered l.rows.states l.flags l.blocks)
    × (length l.active ≡ limits.max_states)
    × (length l.flags ≡ limits.max_states)
    × (length l.blocks ≡ limits.max_states / block)

abbrev pub decreases-loop-q : goal.decreases-loop-q
decreases-loop-q l = slack l.work * (limits.max_states + 1) + l.q
