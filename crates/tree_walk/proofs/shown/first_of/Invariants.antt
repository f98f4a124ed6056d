use Prim.Native.Nat.{ℕ, ◌<◌}
use Rattle.tree_walk.specs.Charted.{rows_of, width, Begins}
use Rattle.tree_walk.proofs.shown.first_of.Given as goal

abbrev pub invariant-loop-s : goal.invariant-loop-s
invariant-loop-s l = (t : ℕ) → t < l.s → Begins l.work l.rows.ahead.now l.rows.lead.now (width (rows_of l.rows)) l.b l.i l.k t → ⊥
