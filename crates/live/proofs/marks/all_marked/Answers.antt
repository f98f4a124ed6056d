-- all_marked meets its contract: the codes before the one at hand are marked.
use native.Mathlib.Omega.{arith}
use mathlib.Core.Path.{sym, ◌∙◌}
use Rattle.live.proofs.MarkLaws.{each-marked, one-unmarked}
use Rattle.live.proofs.marks.all_marked.Goals as goal

pub returns-then-not-is_marked : goal.returns-then-not-is_marked
returns-then-not-is_marked c = sym (one-unmarked _ _ c.loop-x.x-index (omega arith) (sym c.is_marked.ensures ∙ c.if-not-is_marked.true))

pub returns : goal.returns
returns c = sym (each-marked _ _ (λ d h. c.loop-x.invariant d (omega arith)))
