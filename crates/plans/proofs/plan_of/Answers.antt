-- plan_of meets its contract: each part is what a call promises.
use native.Mathlib.Omega.{arith}
use Prim.Native.Nat.{◌≤◌, ◌<◌}
use Rattle.plans.specs.Clauses.{most_square}
use Rattle.grammar.specs.Limits.{limits}
use Rattle.plans.specs.Plan.{rows}
use Rattle.plans.proofs.PlanLaws.{layer_le, plan-joined, span_le, alone-small, shift_small, pairs_small}
use Rattle.plans.proofs.plan_of.Goals as goal
use Rattle.plans.proofs.plan_of.Lts as lts
use Rattle.plans.proofs.plan_of.Reads as reads
use Rattle.plans.proofs.plan_of.Tie as tie

abbrev Place-After-side_of2 : Type 0
Place-After-side_of2 = lts.After-side_of2 tie.the-claims reads.Pre reads.Post tie.handed_clauses

abbrev Place-After-pairs_of : Type 0
Place-After-pairs_of = lts.After-pairs_of tie.the-claims reads.Pre reads.Post tie.handed_clauses

abbrev Place-After-layer_after2 : Type 0
Place-After-layer_after2 = lts.After-layer_after2 tie.the-claims reads.Pre reads.Post tie.handed_clauses

-- the sides have few targets
spans : (c : Place-After-side_of2) → (c.side_of-x.result.span ≤ limits.max_states) × (c.side_of-y.result.span ≤ limits.max_states)
spans c =
    let a = c.args in let s = c.requires.fits.side in (
      span_le a.member.now a.first.now a.a c.side_of-x.result (s a.a c.requires.f_bound.1) c.side_of-x.ensures,
      span_le a.member.now a.first.now a.b c.side_of-y.result (s a.b c.requires.f_bound.2) c.side_of-y.ensures,
    )

sizes : (c : Place-After-pairs_of) → (c.alone_of-left.result ≤ limits.max_states) × (c.alone_of-right.result ≤ limits.max_states) × (c.shift_of-shift.result ≤ 1) × (c.pairs_of-pairs.result ≤ most_square)
sizes c =
    let n = spans c.before.before.before.before in (
      alone-small _ _ _ _ _ _ c.alone_of-left.result c.alone_of-left.ensures n.0,
      alone-small _ _ _ _ _ _ c.alone_of-right.result c.alone_of-right.ensures n.1,
      shift_small _ _ _ _ _ c.shift_of-shift.result c.shift_of-shift.ensures,
      pairs_small _ _ _ _ _ c.side_of-x.result c.side_of-y.result c.pairs_of-pairs.result c.pairs_of-pairs.ensures n.0 n.1,
    )

-- layers and states are small
small : (c : Place-After-layer_after2) → (c.args.q ≤ limits.max_states) × (c.layer_after-on_left.result ≤ 1) × (c.layer_after-on_right.result ≤ 1) × (c.args.f ≤ 1) × (c.args.a < limits.max_states) × (c.args.b < limits.max_states)
small c = (
  c.requires.fits.few,
  omega (arith, c.layer_after-on_left.ensures, layer_le c.args.m c.args.f c.side_of-x.result),
  omega (arith, c.layer_after-on_right.ensures, layer_le c.args.m c.args.f c.side_of-y.result),
  c.requires.f_bound.0,
  omega (arith, c.requires.f_bound.1, c.requires.fits.few),
  omega (arith, c.requires.f_bound.2, c.requires.fits.few),
)

pub overflow_add-result : goal.overflow_add-result
overflow_add-result c = let n = sizes c.before.before.before.before.before.before.before.before in omega (arith, n.0, n.1)

pub overflow_add-result-2 : goal.overflow_add-result-2
overflow_add-result-2 c = let n = sizes c.before.before.before.before.before.before.before.before in omega (arith, n.0, n.1, n.2)

pub overflow_add-result-3 : goal.overflow_add-result-3
overflow_add-result-3 c = let n = sizes c.before.before.before.before.before.before.before.before in omega (arith, n.0, n.1, n.2, n.3)

pub index_of-requires : goal.index_of-requires
index_of-requires c = let n = small c.before.before.before.before.before.before in (n.0, omega (arith, n.1), omega arith, omega (arith, n.5))

pub index_of-requires-2 : goal.index_of-requires-2
index_of-requires-2 c = let n = small c.before.before.before.before.before.before.before in (n.0, omega (arith, n.2), omega (arith, n.4), omega arith)

pub returns : goal.returns
returns c = let a = c.args in
    plan-joined (rows a.ahead.now a.number.now a.member.now a.first.now a.after.now) a.t a.m a.q a.f a.a a.b
    c.side_of-x.result c.side_of-y.result c.alone_of-left.result c.alone_of-right.result c.shift_of-shift.result c.pairs_of-pairs.result
    c.layer_after-on_left.result c.layer_after-on_right.result c.from-u.result c.from-v.result c.index_of.result c.index_of-2.result c.index_of-3.result
    c.side_of-x.ensures c.side_of-y.ensures c.alone_of-left.ensures c.alone_of-right.ensures c.shift_of-shift.ensures c.pairs_of-pairs.ensures
    c.layer_after-on_left.ensures c.layer_after-on_right.ensures c.index_of.ensures c.index_of-2.ensures c.from-u.ensures c.from-v.ensures c.index_of-3.ensures
