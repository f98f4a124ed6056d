use mathlib.Core.Path.{◌≡◌}
use lib.ListN.{length}
use Rattle.chart.specs.Rows.{Mentioning, Covered}
use Rattle.chart.proofs.mention.Given as goal

abbrev pub invariant-loop-p : goal.invariant-loop-p
invariant-loop-p l = Mentioning l.rows.ahead.now l.rows.states l.c l.top l.p l.initial.flags l.flags
    × (length l.blocks ≡ length l.initial.blocks)
    × (Covered l.rows.states l.initial.flags l.initial.blocks → Covered l.rows.states l.flags l.blocks)

abbrev pub decreases-loop-p : goal.decreases-loop-p
decreases-loop-p l = l.p
