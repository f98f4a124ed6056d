-- end_of meets its contract: the index is that of (1,1,1), or another.
use mathlib.Core.Path.{sym, ◌∙◌}
use borrow.Author.Tests.{eq-eqb, ne_eqb}
use Rattle.witness_records.specs.Walk.{end_of}
use Rattle.witness_records.proofs.Entries.{index-end}
use Rattle.witness_records.proofs.end_of.Goals as goal

pub returns-then-last-index_of : goal.returns-then-last-index_of
unfolding end_of
returns-then-last-index_of c = simp (eq-eqb _ _ (c.if-last-index_of.true ∙ c.index_of.ensures ∙ index-end c.args.q))

pub returns : goal.returns
unfolding end_of
returns c = simp (ne_eqb _ _ (λ e. c.if-last-index_of.false (e ∙ sym (c.index_of.ensures ∙ index-end c.args.q))))
