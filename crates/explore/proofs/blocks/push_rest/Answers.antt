-- push_rest meets its contract: without a shift the block alone; else the block below the shift, the shift, and the block past it.
use native.Mathlib.Omega.{arith}
use Rattle.explore.specs.State.{held}
use Rattle.explore.proofs.PushLaws.{rest_below, shift_below, rest-alone, lower_rest, both_rest, rest-pushed}
use Rattle.explore.proofs.blocks.push_rest.Goals as goal

pub expand-requires : goal.expand-requires
expand-requires c = let a = c.args in
    let p = c.requires.q_le_max_states in
    record { marked = c.requires.marked; q_le_max_states = (p.0, p.1, p.2, p.3); by_index = rest_below a.q a.place a.row.now a.from a.to a.p.left_base a.p.shift a.p.beside c.requires.by_index; stride_nonzero = (c.requires.rest_order.some, c.requires.rest_order.climbs) }

pub returns-then-p-eq0 : goal.returns-then-p-eq0
returns-then-p-eq0 c = let a = c.args in
    rest-alone a.q a.place a.row.now a.from a.to a.p.left_base a.p.shift a.p.beside c.requires.by_index (λ h. omega (arith, h, c.if-p-eq0.true)) _ _ c.expand.ensures

pub expand-lower-requires : goal.expand-lower-requires
expand-lower-requires c = let a = c.args in
    let p = c.requires.q_le_max_states in
    let o = c.requires.rest_order in record { marked = c.requires.marked; q_le_max_states = (p.0, p.1, c.split-upper.ensures.lower_bound.0, omega (arith, c.split-upper.ensures.lower_bound.1, p.3)); by_index = λ k h l. rest_below a.q a.place a.row.now a.from a.to a.p.left_base a.p.shift a.p.beside c.requires.by_index k h (omega (arith, l, c.split-upper.ensures.lower_bound.1)); stride_nonzero = (o.some, λ k l x y z. o.climbs k l x y (omega (arith, z, c.split-upper.ensures.lower_bound.1))) }

pub push-both-requires : goal.push-both-requires
push-both-requires c = let a = c.args in
    let p = c.requires.q_le_max_states in record { marked = lower_rest a.q a.place a.row.now a.from a.to a.p.left_base a.p.shift a.p.beside c.requires.by_index c.split-upper.result c.split-upper.ensures.lower_bound.0 c.split-upper.ensures.lower_bound.1 (held c.args.queue.now c.args.parents.now c.args.count) _ c.requires.marked c.expand-lower.ensures; q_le_max_states = (p.0, p.1, shift_below a.q a.place a.row.now a.from a.to a.p.left_base a.p.shift a.p.beside c.requires.by_index (omega (arith, c.if-p-eq0.false))) }

pub expand-requires-2 : goal.expand-requires-2
expand-requires-2 c = let l = c in let t = l in let e = l in let a = e.args in
    let p = e.requires.q_le_max_states in
    let o = e.requires.rest_order in
    let g = lower_rest a.q a.place a.row.now a.from a.to a.p.left_base a.p.shift a.p.beside e.requires.by_index l.split-upper.result l.split-upper.ensures.lower_bound.0 l.split-upper.ensures.lower_bound.1 (held c.args.queue.now c.args.parents.now c.args.count) _ e.requires.marked l.expand-lower.ensures in record { marked = both_rest a.q a.place a.row.now a.from a.to a.p.left_base a.p.shift a.p.beside e.requires.by_index l.split-upper.result l.split-upper.ensures.lower_bound.0 l.split-upper.ensures.lower_bound.1 (omega (arith, t.if-p-eq0.false)) _ _ g c.push-both.ensures; q_le_max_states = (p.0, p.1, l.split-upper.ensures.lower_bound.1, p.3); by_index = λ k h m. rest_below a.q a.place a.row.now a.from a.to a.p.left_base a.p.shift a.p.beside e.requires.by_index k (omega (arith, h, l.split-upper.ensures.lower_bound.0)) m; stride_nonzero = (o.some, λ k m x y z. o.climbs k m (omega (arith, x, l.split-upper.ensures.lower_bound.0)) y z) }

pub shape_of-queue : goal.shape_of-queue
shape_of-queue c = omega (arith, c.expand-2.auto.queue, c.push-both.auto.queue, c.expand-lower.auto.queue)

pub shape_of-parents : goal.shape_of-parents
shape_of-parents c = omega (arith, c.expand-2.auto.parents, c.push-both.auto.parents, c.expand-lower.auto.parents)

pub returns : goal.returns
returns c = let a = c.args in
    rest-pushed a.q a.place a.row.now a.from a.to a.p.left_base a.p.shift a.p.beside c.requires.by_index c.split-upper.result c.split-upper.ensures.lower_bound.0 c.split-upper.ensures.lower_bound.1 (omega (arith, c.if-p-eq0.false)) c.requires.rest_order c.split-upper.ensures.by_index c.split-upper.ensures.limit_bound
    (held c.args.queue.now c.args.parents.now c.args.count) _ _ _ c.requires.marked c.expand-lower.ensures c.push-both.ensures c.expand-2.ensures
