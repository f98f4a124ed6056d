-- diagonal meets its contract: place by place.
use Prim.Native.Nat.{◌+◌}
use mathlib.Core.Path.{◌≡◌, sym, subst}
use native.Mathlib.Omega.{arith}
use native.Mathlib.Nat.{le_refl}
use lib.ListN.{set}
use Rattle.chart.specs.Filling.{width}
use Rattle.chart.proofs.Cells.{item_fits, item_few}
use Rattle.chart.proofs.MadeLaws.{span_at}
use Rattle.chart_start.specs.Sown.{Diagonal}
use Rattle.chart_start.proofs.DiagonalLaws.{diagonal_start, diagonal_more}
use Rattle.chart_start.proofs.diagonal.Goals as goal

pub loop-i-init : goal.loop-i-init
loop-i-init c = diagonal_start _ c.args.h c.args.work.now

pub offset_bounds-work-at : goal.offset_bounds-work-at
offset_bounds-work-at c = let l = c.loop-i in
    omega (arith, c.cell-at.ensures, item_few (span_at c.requires.span l.invariant.size (le_refl l.i) (omega arith)) c.args.h c.requires.h_bound c.args.rows.now.wired.ready.few)

pub bounds-work-at : goal.bounds-work-at
bounds-work-at c = let l = c.loop-i in
    omega (arith, c.cell-at.ensures, item_fits (span_at c.requires.span l.invariant.size (le_refl l.i) (omega arith)) c.args.h c.requires.h_bound)

pub offset_bounds-work-at-in-loop-i : goal.offset_bounds-work-at-in-loop-i
offset_bounds-work-at-in-loop-i c = let l = c.loop-i in
    omega (arith, c.cell-at.ensures, item_few (span_at c.requires.span l.invariant.size (le_refl l.i) (omega arith)) c.args.h c.requires.h_bound c.args.rows.now.wired.ready.few)

pub bounds-work-at-in-loop-i : goal.bounds-work-at-in-loop-i
bounds-work-at-in-loop-i c = let l = c.loop-i in
    omega (arith, c.cell-at.ensures, item_fits (span_at c.requires.span l.invariant.size (le_refl l.i) (omega arith)) c.args.h c.requires.h_bound)

pub loop-i-preserved : goal.loop-i-preserved
loop-i-preserved c = let a = c.args in
    let l = c.loop-i in
    subst (λ v. Diagonal (width a.rows.now) a.h (l.i + 1) a.work.now (set l.work c.cell-at.result v)) (sym c.plus.ensures)
    (diagonal_more (width a.rows.now) a.h l.i a.work.now l.work c.cell-at.result (omega arith) c.cell-at.ensures
    (omega (arith, c.cell-at.ensures, item_fits (span_at c.requires.span l.invariant.size (le_refl l.i) (omega arith)) a.h c.requires.h_bound)) l.invariant)

pub returns : goal.returns
returns c = let a = c.args in
    let l = c.loop-i in
    subst (λ z. Diagonal (width a.rows.now) a.h z a.work.now l.work) (let z : l.i ≡ width a.rows.now = omega arith in z) l.invariant
