-- raise meets its contract: one entry is written.
use Prim.Native.Nat.{◌+◌}
use mathlib.Core.Path.{ap, ap₂, ◌∙◌}
use native.Mathlib.Omega.{arith}
use lib.ListN.{get_or, set}
use Rattle.tree_laws.specs.Chart.{cap}
use Rattle.chart.proofs.Cells.{whole_fits, whole_few}
use Rattle.chart.proofs.raise.Goals as goal

pub offset_bounds-work-at : goal.offset_bounds-work-at
offset_bounds-work-at c = omega (arith, c.cell-at.ensures, whole_few c.requires.span c.args.h c.requires.h_bound c.args.rows.now.wired.ready.few)

pub bounds-work-at : goal.bounds-work-at
bounds-work-at c = omega (arith, c.cell-at.ensures, whole_fits c.requires.span c.args.h c.requires.h_bound)

pub offset_bounds-work-at-2 : goal.offset_bounds-work-at-2
offset_bounds-work-at-2 c = omega (arith, c.cell-at.ensures, whole_few c.requires.span c.args.h c.requires.h_bound c.args.rows.now.wired.ready.few)

pub bounds-work-at-2 : goal.bounds-work-at-2
bounds-work-at-2 c = omega (arith, c.cell-at.ensures, whole_fits c.requires.span c.args.h c.requires.h_bound)

pub returns : goal.returns
returns c = let a = c.args in
    ap₂ (set a.work.now) c.cell-at.ensures (c.plus.ensures ∙ ap (λ n. cap (get_or a.work.now n 0 + a.rise)) c.cell-at.ensures)
