use Prim.Native.Nat.{◌≤◌}
use mathlib.Core.Path.{◌≡◌}
use lib.ListN.{length}
use Rattle.chart_fill.specs.Scan.{Finds}
use Rattle.chart_fill.proofs.find.Given as goal

abbrev pub invariant-loop-p : goal.invariant-loop-p
invariant-loop-p l = (l.p ≤ l.q) × (length l.blocks ≡ length l.initial.blocks) × Finds l.states l.flags l.initial.blocks l.blocks l.q l.p

abbrev pub decreases-loop-p : goal.decreases-loop-p
decreases-loop-p l = l.p
