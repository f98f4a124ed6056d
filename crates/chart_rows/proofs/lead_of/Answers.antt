-- lead_of meets its contract: each return is one case of the definition.
use mathlib.Core.Path.{refl}
use borrow.Author.Tests.{le-leb, lt-leb, lt-ltb, le-ltb}
use Rattle.chart_rows.specs.Wiring.{lead_of}
use Rattle.chart_rows.proofs.lead_of.Goals as goal

pub returns-then-z-n : goal.returns-then-z-n
unfolding lead_of
returns-then-z-n c = simp (lt-leb _ _ c.if-z-n.true) refl

pub returns-then-z-n-2 : goal.returns-then-z-n-2
unfolding lead_of
returns-then-z-n-2 c = simp (le-leb _ _ c.if-z-n.false, lt-ltb _ _ c.if-z-n-2.true) refl

pub returns : goal.returns
unfolding lead_of
returns c = simp (le-leb _ _ c.if-z-n.false, le-ltb _ _ c.if-z-n-2.false) refl
