-- stays_together meets its contract: three ways, tried one after the other.
use mathlib.Core.Path.{sym, ◌∙◌}
use Rattle.witness_check.specs.StepTest.{stays}
use Rattle.witness_check.proofs.step_test.stays_together.Goals as goal

pub returns-then-opens_beside : goal.returns-then-opens_beside
unfolding stays
returns-then-opens_beside c = simp (sym c.opens_beside.ensures ∙ c.if-opens_beside.true)

pub returns-then-opens_beside-2 : goal.returns-then-opens_beside-2
unfolding stays
returns-then-opens_beside-2 c = simp (sym c.opens_beside.ensures ∙ c.if-opens_beside.false, sym c.opens_beside-2.ensures ∙ c.if-opens_beside-2.true)

pub returns : goal.returns
unfolding stays
returns c = simp (sym c.opens_beside.ensures ∙ c.if-opens_beside.false, sym c.opens_beside-2.ensures ∙ c.if-opens_beside-2.false) c.pass_both.ensures
