-- products meets its contract: what the sum and the rest of the rows give stays.
use mathlib.Core.Path.{ap, ap₂, ◌∙◌}
use native.Mathlib.Omega.{arith}
use borrow.Author.Rules.{rules}
use Rattle.std.proofs.lemmas.Grind.{common_steps}
use Rattle.std.proofs.lemmas.Iterator.{empty_from_Zip}
use Rattle.tree_laws.specs.Chart.{cap}
use Rattle.counts.specs.Counts.{dot}
use Rattle.counts.proofs.Laws.{turn, full, ended, small}
use Rattle.counts.proofs.products.Goals as goal

pub loop-x-init : goal.loop-x-init
loop-x-init c = search rules

pub returns-then-sum-eq2 : goal.returns-then-sum-eq2
returns-then-sum-eq2 c = let e = c.in-Some.ensures.steps in
    full _ c.if-sum-eq2.true (turn c.loop-x.sum e.0 e.1 c.times.ensures c.plus-sum.ensures c.loop-x.invariant.2)

pub loop-x-preserved : goal.loop-x-preserved
loop-x-preserved c = let e = c.in-Some.ensures.steps in (
  small _ c.plus-sum.result c.plus-sum.ensures c.if-sum-eq2.false,
  grind (arith, common_steps, c.in-Some.ensures.steps),
  turn c.loop-x.sum e.0 e.1 c.times.ensures c.plus-sum.ensures c.loop-x.invariant.2,
)

pub returns : goal.returns
returns c = let e = empty_from_Zip c.loop-x.x-iterator c.next.new.self c.next.result c.in-None.is c.next.ensures.steps c.loop-x.invariant.1 in
    ended e.0 e.1 c.loop-x.invariant.0 c.loop-x.invariant.2
