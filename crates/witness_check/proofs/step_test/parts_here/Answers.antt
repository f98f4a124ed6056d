-- parts_here meets its contract: three ways, tried one after the other.
use mathlib.Core.Path.{sym, ◌∙◌}
use Rattle.witness_check.specs.StepTest.{parts}
use Rattle.witness_check.proofs.step_test.parts_here.Goals as goal

pub returns-then-parts_both : goal.returns-then-parts_both
unfolding parts
returns-then-parts_both c = simp (sym c.parts_both.ensures ∙ c.if-parts_both.true)

pub returns-then-parts_beside : goal.returns-then-parts_beside
unfolding parts
returns-then-parts_beside c = simp (sym c.parts_both.ensures ∙ c.if-parts_both.false, sym c.parts_beside.ensures ∙ c.if-parts_beside.true)

pub returns : goal.returns
unfolding parts
returns c = simp (sym c.parts_both.ensures ∙ c.if-parts_both.false, sym c.parts_beside.ensures ∙ c.if-parts_beside.false) c.parts_beside-2.ensures
