-- plane meets its contract: an end has the plane of state 3.
use mathlib.Core.Path.{refl}
use borrow.Author.Tests.{eq-eqb, ne_eqb}
use Rattle.chart.specs.Rows.{plane_of}
use Rattle.chart.proofs.rows.TreeRows.plane.Goals as goal

pub returns-then-self-p-eq0 : goal.returns-then-self-p-eq0
unfolding plane_of
returns-then-self-p-eq0 c = simp (eq-eqb _ _ c.if-self-p-eq0.true) refl

pub returns-else-self-p-eq0 : goal.returns-else-self-p-eq0
unfolding plane_of
returns-else-self-p-eq0 c = simp (ne_eqb _ _ c.if-self-p-eq0.false) refl
