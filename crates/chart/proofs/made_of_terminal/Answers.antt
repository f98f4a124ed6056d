-- made_of_terminal meets its contract: a terminal that fits leaves the count of what follows.
use Prim.Native.Nat.{◌+◌, ◌≤◌}
use mathlib.Core.Path.{refl, sym, ap, ◌∙◌}
use native.Mathlib.Omega.{arith}
use native.Mathlib.Nat.{add-zero}
use lib.ListN.{get_or}
use borrow.Author.Tests.{lt-ltb, le-ltb, eq-eqb, ne_eqb}
use Rattle.tree_laws.specs.Chart.{cap}
use Rattle.chart.proofs.Cells.{item_fits, item_few}
use Rattle.chart.proofs.MadeLaws.{span_at}
use Rattle.chart.proofs.made_of_terminal.Goals as goal

pub returns-then-j-i : goal.returns-then-j-i
unfolding cap
returns-then-j-i c = simp (le-ltb _ _ c.if-j-i.true) refl

pub returns-then-rows-i : goal.returns-then-rows-i
unfolding cap
returns-then-rows-i c = simp (lt-ltb _ _ c.if-j-i.false, ne_eqb _ _ c.if-rows-i.true) refl

pub offset_bounds-work-at : goal.offset_bounds-work-at
offset_bounds-work-at c = let h : c.args.i + 1 ≤ c.args.j = omega arith in
    omega (arith, c.cell-at.ensures, item_few (span_at c.requires.span refl h c.requires.span.inside) c.args.z c.requires.z_bound c.args.rows.now.wired.ready.few)

pub bounds-work-at : goal.bounds-work-at
bounds-work-at c = let h : c.args.i + 1 ≤ c.args.j = omega arith in
    omega (arith, c.cell-at.ensures, item_fits (span_at c.requires.span refl h c.requires.span.inside) c.args.z c.requires.z_bound)

pub returns : goal.returns
returns c = c.plus.ensures ∙ ap cap (add-zero _ ∙ ap (λ n. get_or c.args.work.now n 0) c.cell-at.ensures)
    ∙ sym (simp (lt-ltb _ _ c.if-j-i.false, eq-eqb _ _ c.if-rows-i.false) refl)
