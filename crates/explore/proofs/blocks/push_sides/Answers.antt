-- push_sides meets its contract: the parts together are the two blocks and the shift.
use native.Mathlib.Omega.{arith}
use Rattle.explore.specs.State.{held}
use Rattle.explore.proofs.PushLaws.{left_below, right-below, lower_marked, right-marked, rest_bounded, rest_order, sides-pushed}
use Rattle.explore.proofs.blocks.push_sides.Goals as goal

pub expand-lower-requires : goal.expand-lower-requires
expand-lower-requires c = let a = c.args in
    let p = c.requires.q_le_max_states in record { marked = c.requires.marked; q_le_max_states = (p.0, p.1, c.split-middle.ensures.lower_bound.0, omega (arith, c.split-middle.ensures.lower_bound.1, p.3)); by_index = λ k h l. left_below a.q a.row.now a.p.left_from a.left_end a.p.left_base a.p.right_from a.right_end a.p.right_base a.p.shift a.p.beside c.requires.by_index k h (omega (arith, l, c.split-middle.ensures.lower_bound.1)); stride_nonzero = (c.requires.sorted.order.some, λ k l x y z. c.requires.sorted.order.climbs_left k l x y (omega (arith, z, c.split-middle.ensures.lower_bound.1))) }

pub expand-right-requires : goal.expand-right-requires
expand-right-requires c = let a = c.args in
    let p = c.requires.q_le_max_states in record {
      marked = lower_marked a.q a.row.now a.p.left_from a.left_end a.p.left_base a.p.right_from a.right_end a.p.right_base a.p.shift a.p.beside c.requires.by_index
          a.place c.split-middle.result c.split-middle.ensures.lower_bound.0 c.split-middle.ensures.lower_bound.1 (held c.args.queue.now c.args.parents.now c.args.count) _ c.requires.marked c.expand-lower.ensures;
      q_le_max_states = (p.0, p.1, p.4, p.5);
      by_index = right-below a.q a.row.now a.p.left_from a.left_end a.p.left_base a.p.right_from a.right_end a.p.right_base a.p.shift a.p.beside c.requires.by_index;
      stride_nonzero = (omega arith, c.requires.sorted.order.climbs_right);
    }

pub push_rest-requires : goal.push_rest-requires
push_rest-requires c = let a = c.args in
    let p = c.requires.q_le_max_states in
    let g =
    lower_marked a.q a.row.now a.p.left_from a.left_end a.p.left_base a.p.right_from a.right_end a.p.right_base a.p.shift a.p.beside c.requires.by_index
    a.place c.split-middle.result c.split-middle.ensures.lower_bound.0 c.split-middle.ensures.lower_bound.1 (held c.args.queue.now c.args.parents.now c.args.count) _ c.requires.marked c.expand-lower.ensures in record {
      marked = right-marked a.q a.row.now a.p.left_from a.left_end a.p.left_base a.p.right_from a.right_end a.p.right_base a.p.shift a.p.beside c.requires.by_index
          a.place c.split-middle.result c.split-middle.ensures.lower_bound.0 c.split-middle.ensures.lower_bound.1 _ _ g c.expand-right.ensures;
      q_le_max_states = (p.0, p.1, c.split-middle.ensures.lower_bound.1, p.3, p.6);
      by_index = rest_bounded a.q a.row.now a.p.left_from a.left_end a.p.left_base a.p.right_from a.right_end a.p.right_base a.p.shift a.p.beside c.requires.by_index a.place c.split-middle.result c.split-middle.ensures.lower_bound.0 c.split-middle.ensures.lower_bound.1;
      rest_order = rest_order a.q a.row.now a.p.left_from a.left_end a.p.left_base a.p.right_from a.right_end a.p.right_base a.p.shift a.p.beside c.requires.by_index a.place c.split-middle.result c.split-middle.ensures.lower_bound.0 c.split-middle.ensures.lower_bound.1 c.requires.sorted.order;
    }

pub shape_of-queue : goal.shape_of-queue
shape_of-queue c = omega (arith, c.push_rest.auto.queue, c.expand-right.auto.queue, c.expand-lower.auto.queue)

pub shape_of-parents : goal.shape_of-parents
shape_of-parents c = omega (arith, c.push_rest.auto.parents, c.expand-right.auto.parents, c.expand-lower.auto.parents)

pub returns : goal.returns
returns c = let a = c.args in
    sides-pushed a.q a.row.now a.p.left_from a.left_end a.p.left_base a.p.right_from a.right_end a.p.right_base a.p.shift a.p.beside c.requires.by_index
    a.place c.split-middle.result c.split-middle.ensures.lower_bound.0 c.split-middle.ensures.lower_bound.1 c.requires.sorted.self c.requires.sorted.order c.split-middle.ensures.by_index c.split-middle.ensures.limit_bound (held c.args.queue.now c.args.parents.now c.args.count) c.requires.sorted.seen _ _ _ c.requires.marked c.expand-lower.ensures c.expand-right.ensures c.push_rest.ensures
