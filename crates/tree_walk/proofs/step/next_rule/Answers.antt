-- next_rule meets its contract: one law for each way on, and for the end.
use native.Mathlib.Omega.{arith}
use Rattle.tree_walk.specs.Charted.{rows_of}
use Rattle.tree_walk.proofs.Turns.{turn-done, turn-back, turn_on, at_same, walks_inside, walks_deep}
use Rattle.tree_walk.proofs.step.next_rule.Goals as goal

pub loop-walker-init : goal.loop-walker-init
loop-walker-init c = (c.requires.walks, λ g out W. W)

pub offset_bounds-rows-walker : goal.offset_bounds-rows-walker
offset_bounds-rows-walker c = omega (arith, c.loop-walker.invariant.0.at.here, c.loop-walker.invariant.0.at.charted.ready.few)

pub bounds-rows-walker : goal.bounds-rows-walker
bounds-rows-walker c = omega (arith, c.loop-walker.invariant.0.at.here, c.loop-walker.invariant.0.at.charted.ready.few)

pub offset_bounds-rows-walker-in-loop-walker : goal.offset_bounds-rows-walker-in-loop-walker
offset_bounds-rows-walker-in-loop-walker c = omega (arith, c.loop-walker.invariant.0.at.here, c.loop-walker.invariant.0.at.charted.ready.few)

pub bounds-rows-walker-in-loop-walker : goal.bounds-rows-walker-in-loop-walker
bounds-rows-walker-in-loop-walker c = omega (arith, c.loop-walker.invariant.0.at.here, c.loop-walker.invariant.0.at.charted.ready.few)

pub overflow_add-walker : goal.overflow_add-walker
overflow_add-walker c = omega (arith, c.loop-walker.invariant.0.at.here, c.loop-walker.invariant.0.at.charted.ready.few)

pub overflow_add-walker-then-rows-walker-ne0 : goal.overflow_add-walker-then-rows-walker-ne0
overflow_add-walker-then-rows-walker-ne0 c = omega (arith, walks_inside c.loop-walker.invariant.0, c.requires.roomy.small)

pub loop-walker-smaller-then-rows-walker-ne0 : goal.loop-walker-smaller-then-rows-walker-ne0
loop-walker-smaller-then-rows-walker-ne0 c = omega (arith, c.loop-walker.invariant.0.at.here, c.loop-walker.invariant.0.at.charted.ready.few)

pub loop-walker-preserved-then-rows-walker-ne0 : goal.loop-walker-preserved-then-rows-walker-ne0
loop-walker-preserved-then-rows-walker-ne0 c = let w = c.loop-walker.walker in
    let x = c.loop-walker.invariant.0 in
    let on = turn_on (rows_of c.args.rows.now) in (
      record { course = x.course; out = x.out; at = on x.course x.out c.args.work.now w.p w.i w.j w.depth x.at c.if-rows-walker-ne0.true c.loop-walker-test.true },
      λ g out W. on g out c.args.work.now w.p w.i w.j w.depth (c.loop-walker.invariant.1 g out W) c.if-rows-walker-ne0.true c.loop-walker-test.true,
    )

pub returns-then-walker-eq0 : goal.returns-then-walker-eq0
returns-then-walker-eq0 c = let w = c.loop-walker.walker in
    λ g out W.
    let V = c.loop-walker.invariant.1 g out W in
    (turn-done (rows_of c.args.rows.now) g out c.args.work.now w.p w.i w.j w.depth V c.if-rows-walker-ne0.false c.if-walker-eq0.true, V.low)

pub back-requires : goal.back-requires
back-requires c = (omega (arith, walks_deep c.loop-walker.invariant.0, c.if-walker-eq0.false), omega arith)

pub loop-walker-preserved : goal.loop-walker-preserved
loop-walker-preserved c = let w = c.loop-walker.walker in
    let x = c.loop-walker.invariant.0 in
    let r = rows_of c.args.rows.now in
    let b = c.back.ensures in
    let back = turn-back r in (
      record { course = x.course; out = x.out; at = at_same r x.course x.out c.args.work.now b.p_value.0 b.p_value.1 b.p_value.2 b.depth_value (back x.course x.out c.args.work.now w.p w.i w.j w.depth x.at c.if-rows-walker-ne0.false (omega (arith, c.if-walker-eq0.false))) },
      λ g out W. at_same r g out c.args.work.now b.p_value.0 b.p_value.1 b.p_value.2 b.depth_value (back g out c.args.work.now w.p w.i w.j w.depth (c.loop-walker.invariant.1 g out W) c.if-rows-walker-ne0.false (omega (arith, c.if-walker-eq0.false))),
    )

pub open-requires-clause-walks : goal.open-requires-clause-walks
open-requires-clause-walks c = c.loop-walker.invariant.0

pub returns : goal.returns
returns c = λ g out W. c.«open».ensures g out (c.loop-walker.invariant.1 g out W)
