-- alone_of meets its contract: each return is one case of the definition.
use mathlib.Core.Path.{sym, ◌∙◌}
use borrow.Author.Tests.{lt-ltb, le-ltb, eq-eqb, ne_eqb}
use Rattle.plans.specs.Plan.{alone_of}
use Rattle.plans.proofs.sides.alone_of.Goals as goal

pub returns-then-f-ne0 : goal.returns-then-f-ne0
unfolding alone_of
returns-then-f-ne0 c = simp (ne_eqb _ 0 c.if-f-ne0.true)

pub returns-then-m-s : goal.returns-then-m-s
unfolding alone_of
returns-then-m-s c = simp (eq-eqb _ 0 c.if-f-ne0.false, le-ltb _ _ c.if-m-s.true)

pub returns-then-reads_next : goal.returns-then-reads_next
unfolding alone_of
returns-then-reads_next c = simp (eq-eqb _ 0 c.if-f-ne0.false, lt-ltb _ _ c.if-m-s.false, sym c.reads_next.ensures ∙ c.if-reads_next.true)

pub returns : goal.returns
unfolding alone_of
returns c = simp (eq-eqb _ 0 c.if-f-ne0.false, lt-ltb _ _ c.if-m-s.false, sym c.reads_next.ensures ∙ c.if-reads_next.false)
