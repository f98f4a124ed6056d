-- open meets its contract: what the code finds is a split and a rule that show, so they are the tree's.
use borrow.Author.Rules.{rules}
use native.Mathlib.Omega.{arith}
use mathlib.Core.Path.{sym, subst}
use mathlib.Core.List.{[], ◌∷◌, ◌++◌}
use Prim.Native.Nat.{◌+◌, ◌≤◌}
use lib.ListN.{length, get_or}
use Rattle.chart.proofs.Cells.{item_few}
use Rattle.chart.proofs.MadeLaws.{plane_in, home_in}
use Rattle.tree_walk.specs.Charted.{rows_of}
use Rattle.tree_walk.specs.Walking.{WalkAt}
use Rattle.tree_walk.proofs.Turns.{walks_inside, walks_deep, span_in}
use Rattle.tree_walk.proofs.Opening.{Chosen, walks_past, open_room, opened}
use Rattle.tree_walk.proofs.step.open.Goals as goal

pub plane-z-requires : goal.plane-z-requires
plane-z-requires c = omega (arith, walks_past c.requires.walks c.requires.limits_bound, c.requires.walks.at.charted.ready.few)

pub split-k-requires-clause-span : goal.split-k-requires-clause-span
split-k-requires-clause-span c = let x = walks_inside c.requires.walks in span_in (rows_of c.args.rows.now) c.requires.roomy x.0 x.1

pub split-k-requires-clause-states_le_max_states : goal.split-k-requires-clause-states_le_max_states
split-k-requires-clause-states_le_max_states c = let r = c.args.rows.now in
    let p = c.args.walker.now.p in
    let q = c.requires.walks.at.charted.ready in (
      q.few,
      omega (arith, c.home_of-h.ensures, home_in r.home.now (get_or r.ahead.now p 0) r.states q.homes (omega (arith, q.four))),
      omega (arith, c.plane-z.ensures, plane_in r.ahead.now (p + 1) r.states (omega (arith, walks_past c.requires.walks c.requires.limits_bound)) q.four),
    )

pub first_of-s-requires : goal.first_of-s-requires
first_of-s-requires c = let k = c.split-k.ensures.lower_bound in record { span = span_in (rows_of c.args.rows.now) c.requires.roomy k.0 (omega (arith, walks_inside c.requires.walks, k)); states_le_max_states = (c.requires.walks.at.charted.ready.few, c.requires.walks.at.charted.ready.four) }

pub cell-f-requires-clause-in_bounds : goal.cell-f-requires-clause-in_bounds
cell-f-requires-clause-in_bounds c = let x = walks_inside c.requires.walks in (
  omega (arith, walks_past c.requires.walks c.requires.limits_bound, c.requires.walks.at.charted.ready.few),
  omega (arith, x, c.split-k.ensures.lower_bound),
  omega (arith, x),
)

pub wait-requires : goal.wait-requires
wait-requires c = let x = c.requires.walks in
    let w = c.args.walker.now in
    let k = c.split-k.ensures.lower_bound in
    let f : Chosen (rows_of c.args.rows.now) c.args.work.now w.p w.i w.j c.home_of-h.result c.plane-z.result c.split-k.result c.first_of-s.result
    = record { home = c.home_of-h.ensures; plane = c.plane-z.ensures; low = k.0; high = k.1; split = c.split-k.ensures.by_index; state = c.first_of-s.ensures.upper_bound; first = c.first_of-s.ensures.by_index } in (
      open_room (rows_of c.args.rows.now) x.course x.out c.args.work.now w.p w.i w.j w.depth x.at c.requires.limits_bound _ _ _ _ f,
      omega (
        arith,
        c.cell-f.ensures,
        item_few (span_in (rows_of c.args.rows.now) c.requires.roomy k.1 (walks_inside x).1) (w.p + 1) (omega (arith, walks_past x c.requires.limits_bound)) c.requires.walks.at.charted.ready.few,
      ),
    )

pub overflow_add-walker : goal.overflow_add-walker
overflow_add-walker c = let z : c.args.walker.now.depth ≤ length c.args.work.now = walks_deep c.requires.walks in search rules

pub returns : goal.returns
returns c = let w = c.args.walker.now in
    let k = c.split-k.ensures.lower_bound in
    let f : Chosen (rows_of c.args.rows.now) c.args.work.now w.p w.i w.j c.home_of-h.result c.plane-z.result c.split-k.result c.first_of-s.result
    = record { home = c.home_of-h.ensures; plane = c.plane-z.ensures; low = k.0; high = k.1; split = c.split-k.ensures.by_index; state = c.first_of-s.ensures.upper_bound; first = c.first_of-s.ensures.by_index } in
    λ g out W. subst (λ row. WalkAt (rows_of c.args.rows.now) g (out ++ (get_or c.args.rows.now.number.now c.first_of-s.result 0 ∷ [])) row c.first_of-s.result w.i c.split-k.result (w.depth + 1))
    (sym c.wait.ensures)
    (opened (rows_of c.args.rows.now) g out c.args.work.now w.p w.i w.j w.depth W c.requires.limits_bound _ _ _ _ f c.cell-f.result c.cell-f.ensures)
