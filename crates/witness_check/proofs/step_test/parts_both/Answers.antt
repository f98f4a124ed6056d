-- parts_both meets its contract: both close, and the numbers differ.
use mathlib.Core.Path.{sym, ◌∙◌}
use Rattle.witness_check.proofs.step_test.parts_both.Goals as goal

pub returns-then-not-closes_to : goal.returns-then-not-closes_to
returns-then-not-closes_to c = simp (sym c.closes_to.ensures ∙ c.if-not-closes_to.true)

pub returns-then-not-closes_to-2 : goal.returns-then-not-closes_to-2
returns-then-not-closes_to-2 c = simp (sym c.closes_to.ensures ∙ c.if-not-closes_to.false, sym c.closes_to-2.ensures ∙ c.if-not-closes_to-2.true)

pub returns : goal.returns
returns c = simp (sym c.closes_to.ensures ∙ c.if-not-closes_to.false, sym c.closes_to-2.ensures ∙ c.if-not-closes_to-2.false)
