-- parts_beside meets its contract: the other side stays before a terminal.
use borrow.Author.Tests.{eq-eqb, ne_eqb}
use mathlib.Core.Path.{sym, ◌∙◌}
use Rattle.witness_check.proofs.step_test.parts_beside.Goals as goal

pub returns-then-v-q : goal.returns-then-v-q
returns-then-v-q c = simp (ne_eqb _ _ c.if-v-q.true)

pub returns-then-not-closes_to : goal.returns-then-not-closes_to
returns-then-not-closes_to c = simp (eq-eqb _ _ c.if-v-q.false, sym c.closes_to.ensures ∙ c.if-not-closes_to.true)

pub returns : goal.returns
returns c = simp (eq-eqb _ _ c.if-v-q.false, sym c.closes_to.ensures ∙ c.if-not-closes_to.false) c.reads_next.ensures
