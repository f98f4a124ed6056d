-- expand meets its contract: after each turn the entries up to there are pushed.
use mathlib.Core.Path.{refl, sym, subst}
use Prim.Native.Nat.{ℕ, ◌+◌, ◌*◌, ◌≤◌, ◌<◌}
use native.Mathlib.Omega.{arith}
use Rattle.triples.specs.Index.{triple_count}
use Rattle.explore.specs.State.{held}
use Rattle.explore.proofs.AddsLaws.{count_small}
use Rattle.explore.proofs.PushLaws.{along-start, along-marked, along-more, along-end}
use Rattle.explore.proofs.push.expand.Goals as goal
use Rattle.explore.proofs.push.expand.Lts as lts
use Rattle.explore.proofs.push.expand.Reads as reads
use Rattle.explore.proofs.push.expand.Tie as tie

abbrev Place-After-push-arg2 : Type 0
Place-After-push-arg2 = lts.After-push-arg2 tie.the-claims reads.Pre reads.Post goal.the-invariant-loop-k goal.the-decreases-loop-k tie.handed_clauses

below : (c : Place-After-push-arg2) →
    let a = c.args in
    a.base + c.from-u.result * a.stride < triple_count a.q
below c =
    let a = c.args in
    subst (λ (u : ℕ). a.base + u * a.stride < triple_count a.q) (sym c.from-u.ensures)
    (c.requires.by_index c.loop-k.k c.loop-k.invariant.0 c.loop-k-test.true)

pub loop-k-init : goal.loop-k-init
loop-k-init c = let a = c.args in
    let z : a.from ≤ a.from = omega arith in (
      z,
      c.requires.q_le_max_states.2,
      along-start a.q a.place a.row.now a.from a.to a.base a.stride (held c.args.queue.now c.args.parents.now c.args.count) c.requires.marked c.requires.by_index c.requires.stride_nonzero,
      refl,
      refl,
    )

pub overflow_mul-u : goal.overflow_mul-u
overflow_mul-u c = omega (arith, below c.before, count_small c.args.q c.requires.q_le_max_states.0)

pub overflow_add-base : goal.overflow_add-base
overflow_add-base c = omega (arith, below c.before, count_small c.args.q c.requires.q_le_max_states.0)

pub push-end-requires : goal.push-end-requires
push-end-requires c = let a = c.args in record {
  marked = along-marked a.q a.place a.row.now a.from a.to a.base a.stride (held c.args.queue.now c.args.parents.now c.args.count) c.requires.marked c.requires.by_index c.requires.stride_nonzero
      c.loop-k.k c.loop-k.invariant.1 _ c.loop-k.invariant.2;
  q_le_max_states = (c.requires.q_le_max_states.0, c.requires.q_le_max_states.1, below c.before);
}

pub loop-k-preserved : goal.loop-k-preserved
loop-k-preserved c = let t = c.loop-k-test.true in
    let a = c.args in (
      omega (arith, c.loop-k.invariant.0),
      omega (arith, t),
      along-more a.q a.place a.row.now a.from a.to a.base a.stride (held c.args.queue.now c.args.parents.now c.args.count) c.requires.marked c.requires.by_index c.requires.stride_nonzero
          c.loop-k.k c.from-u.result c.loop-k.invariant.0 t c.from-u.ensures _ _ c.loop-k.invariant.2 c.push-end.ensures,
      omega (arith, c.push-end.auto.queue, c.loop-k.invariant.3),
      omega (arith, c.push-end.auto.parents, c.loop-k.invariant.4),
    )

pub returns : goal.returns
returns c = let a = c.args in
    along-end a.q a.place a.row.now a.from a.to a.base a.stride (held c.args.queue.now c.args.parents.now c.args.count) c.requires.marked c.requires.by_index c.requires.stride_nonzero
    c.loop-k.k c.loop-k.invariant.1 c.loop-k-test.false _ c.loop-k.invariant.2
