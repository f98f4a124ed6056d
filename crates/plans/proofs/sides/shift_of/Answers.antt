-- shift_of meets its contract: each return is one case of the definition.
use mathlib.Core.Path.{sym, ◌∙◌}
use borrow.Author.Tests.{le-leb, lt-leb, eq-eqb, ne_eqb}
use Rattle.plans.specs.Plan.{shift_of}
use mathlib.Core.Bool.{true, false}
use Rattle.plans.proofs.PlanLaws.{shift_reads}
use Rattle.plans.proofs.sides.shift_of.Goals as goal

pub returns-then-ahead-a-lt1 : goal.returns-then-ahead-a-lt1
unfolding shift_of
returns-then-ahead-a-lt1 c = simp (lt-leb 1 _ c.if-ahead-a-lt1.true)

pub returns-then-ahead-a : goal.returns-then-ahead-a
unfolding shift_of
returns-then-ahead-a c = simp (le-leb 1 _ c.if-ahead-a-lt1.false, ne_eqb _ _ c.if-ahead-a.true)

pub returns-then-f-eq0 : goal.returns-then-f-eq0
unfolding shift_of
returns-then-f-eq0 c = simp (le-leb 1 _ c.if-ahead-a-lt1.false, eq-eqb _ _ c.if-ahead-a.false, eq-eqb _ 0 c.if-f-eq0.true)

pub returns-then-reads_next : goal.returns-then-reads_next
returns-then-reads_next c = let a = c.args in shift_reads a.ahead.now a.t a.f a.a a.b true c.if-ahead-a-lt1.false c.if-ahead-a.false c.if-f-eq0.false (sym c.reads_next.ensures ∙ c.if-reads_next.true)

pub returns : goal.returns
returns c = let a = c.args in shift_reads a.ahead.now a.t a.f a.a a.b false c.if-ahead-a-lt1.false c.if-ahead-a.false c.if-f-eq0.false (sym c.reads_next.ensures ∙ c.if-reads_next.false)
