-- goes_on meets its contract: three ways, tried one after the other.
use mathlib.Core.Path.{sym, ◌∙◌}
use Rattle.witness_check.specs.StepTest.{follows}
use Rattle.witness_check.proofs.step_test.goes_on.Goals as goal

pub returns-then-leads_beside : goal.returns-then-leads_beside
unfolding follows
returns-then-leads_beside c = simp (sym c.leads_beside.ensures ∙ c.if-leads_beside.true)

pub returns-then-leads_beside-2 : goal.returns-then-leads_beside-2
unfolding follows
returns-then-leads_beside-2 c = simp (sym c.leads_beside.ensures ∙ c.if-leads_beside.false, sym c.leads_beside-2.ensures ∙ c.if-leads_beside-2.true)

pub returns-then-not-reads_next : goal.returns-then-not-reads_next
unfolding follows
returns-then-not-reads_next c = simp (sym c.leads_beside.ensures ∙ c.if-leads_beside.false, sym c.leads_beside-2.ensures ∙ c.if-leads_beside-2.false, sym c.reads_next.ensures ∙ c.if-not-reads_next.true)

pub returns : goal.returns
unfolding follows
returns c = simp (sym c.leads_beside.ensures ∙ c.if-leads_beside.false, sym c.leads_beside-2.ensures ∙ c.if-leads_beside-2.false, sym c.reads_next.ensures ∙ c.if-not-reads_next.false) c.pass_both.ensures
