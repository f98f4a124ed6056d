-- opens_beside meets its contract: the other side stays, and the class opens there.
use borrow.Author.Tests.{eq-eqb, ne_eqb}
use Rattle.witness_check.proofs.one_side.opens_beside.Goals as goal

pub returns-then-v-q : goal.returns-then-v-q
returns-then-v-q c = simp (ne_eqb _ _ c.if-v-q.true)

pub returns : goal.returns
returns c = simp (eq-eqb _ _ c.if-v-q.false) c.opens_to.ensures
