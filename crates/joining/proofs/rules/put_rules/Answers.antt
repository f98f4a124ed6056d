-- `joining::rules::put_rules` meets its contract: up to the cursor the module's rules are put, those that the robot has written over.
-- Assumes nothing.
use Rattle.std.proofs.Common.{refl, arith}
use Rattle.joining.proofs.Putting.{put-start, put_whole, put_ready, put-before, put-more, put-end}
use Rattle.joining.proofs.rules.put_rules.Goals as goal

pub loop-at-init : goal.loop-at-init
loop-at-init c = put-start c.requires

pub bounds-table-at : goal.bounds-table-at
bounds-table-at c = omega (arith, put_whole c.loop-at.invariant c.loop-at-test.true)

pub slice_bounds-put_rule-end : goal.slice_bounds-put_rule-end
slice_bounds-put_rule-end c = omega (arith, put_whole c.loop-at.invariant c.loop-at-test.true)

pub put_rule-requires : goal.put_rule-requires
put_rule-requires c = put_ready c.loop-at.invariant c.loop-at-test.true _ refl

pub next_place-to-requires : goal.next_place-to-requires
next_place-to-requires c = put-before c.loop-at.invariant c.loop-at-test.true _ refl _ c.put_rule.ensures

pub loop-at-preserved : goal.loop-at-preserved
loop-at-preserved c = put-more c.loop-at.invariant c.loop-at-test.true _ refl _ c.put_rule.ensures
    c.next_place-to.result c.next_place-to.ensures

pub returns : goal.returns
returns c = put-end c.loop-at.invariant c.loop-at-test.false
