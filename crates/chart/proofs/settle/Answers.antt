-- settle meets its contract: the count stays where it is 2 or the others make no more of it.
use Prim.Native.Nat.{◌-◌}
use native.Mathlib.Omega.{arith}
use Rattle.chart.proofs.Cells.{item_fits, item_few}
use Rattle.chart.proofs.MadeLaws.{settles_none, settles_full, settles_rise}
use Rattle.chart.proofs.settle.Goals as goal

pub offset_bounds-work-at : goal.offset_bounds-work-at
offset_bounds-work-at c = omega (arith, c.cell-at.ensures, item_few c.requires.span (c.args.q - 1) (omega (arith, c.requires.le_q)) c.args.rows.now.wired.ready.few)

pub bounds-work-at : goal.bounds-work-at
bounds-work-at c = omega (arith, c.cell-at.ensures, item_fits c.requires.span (c.args.q - 1) (omega (arith, c.requires.le_q)))

pub returns-then-old-ge2 : goal.returns-then-old-ge2
returns-then-old-ge2 c = settles_full _ _ _ _ c.cell-at.ensures c.if-old-ge2.true

pub returns-then-new-old : goal.returns-then-new-old
returns-then-new-old c = settles_none _ _ _ _ c.cell-at.ensures (omega (arith, c.made-new.ensures, c.if-new-old.true))

pub offset_bounds-work-at-2 : goal.offset_bounds-work-at-2
offset_bounds-work-at-2 c = omega (arith, c.cell-at.ensures, item_few c.requires.span (c.args.q - 1) (omega (arith, c.requires.le_q)) c.args.rows.now.wired.ready.few)

pub bounds-work-at-2 : goal.bounds-work-at-2
bounds-work-at-2 c = omega (arith, c.cell-at.ensures, item_fits c.requires.span (c.args.q - 1) (omega (arith, c.requires.le_q)))

pub returns : goal.returns
returns c = settles_rise _ _ _ _ _ c.cell-at.ensures c.made-new.ensures c.if-new-old.false
