-- push_grid meets its contract: after each turn the lines up to there are pushed.
use mathlib.Core.Path.{◌≡◌, refl, sym, subst}
use mathlib.Core.List.{List}
use borrow.Author.Rules.{rules}
use Prim.Native.Nat.{ℕ, ◌+◌, ◌*◌, ◌≤◌, ◌<◌}
use native.Mathlib.Omega.{arith}
use lib.ListN.{get_or}
use Rattle.triples.specs.Index.{triple_count}
use Rattle.explore.specs.State.{State, held, Pushed, Along}
use Rattle.explore.proofs.PushLaws.{grid-start, grid-marked, line-below, grid-more, grid-end}
use Rattle.explore.proofs.blocks.push_grid.Goals as goal
use Rattle.explore.proofs.blocks.push_grid.Lts as lts
use Rattle.explore.proofs.blocks.push_grid.Reads as reads
use Rattle.explore.proofs.blocks.push_grid.Tie as tie

abbrev Place-After-index_of : Type 0
Place-After-index_of = lts.After-index_of tie.the-claims reads.Pre reads.Post goal.the-invariant-loop-k goal.the-decreases-loop-k tie.handed_clauses

-- a line by another name of its begin
along-from : (place : ℕ) (row : List ℕ) (from to a b : ℕ) (s s₁ : State) → a ≡ b → Pushed place (Along row from to a 1) s s₁ → Pushed place (Along row from to b 1) s s₁
along-from place row from to a b s s₁ e p = subst (λ (c : ℕ). Pushed place (Along row from to c 1) s s₁) e p

-- where a line begins
line_is : (c : Place-After-index_of) → let q = c.args.q in q * q + c.from-u.result * q ≡ c.index_of-line.result
line_is c = omega (arith, c.index_of-line.ensures)

pub loop-k-init : goal.loop-k-init
loop-k-init c = let a = c.args in
    let z : a.left_from ≤ a.left_from = omega arith in (
      z,
      c.requires.q_le_max_states.2,
      grid-start a.q a.place a.row.now a.left_from a.left_end a.right_from a.right_end (a.q * a.q) (held c.args.queue.now c.args.parents.now c.args.count) c.requires.marked c.requires.by_index c.requires.grid_order,
      refl,
      refl,
    )

pub index_of-line-requires : goal.index_of-line-requires
index_of-line-requires c = (c.requires.q_le_max_states.0, omega arith, search rules, omega arith)

pub expand-end-requires : goal.expand-end-requires
expand-end-requires c = let a = c.args in
    let p = c.requires.q_le_max_states in record {
      marked = grid-marked a.q a.place a.row.now a.left_from a.left_end a.right_from a.right_end (a.q * a.q) (held c.args.queue.now c.args.parents.now c.args.count) c.requires.marked c.requires.by_index c.requires.grid_order
          c.loop-k.k c.loop-k.invariant.1 _ c.loop-k.invariant.2;
      q_le_max_states = (p.0, p.1, p.4, p.5);
      by_index = λ j g h. subst (λ (b : ℕ). b + get_or a.row.now j 0 * 1 < triple_count a.q) (line_is c.before.before.before)
          (line-below a.q a.place a.row.now a.left_from a.left_end a.right_from a.right_end (a.q * a.q) (held c.args.queue.now c.args.parents.now c.args.count) c.requires.marked c.requires.by_index c.requires.grid_order
          c.loop-k.k c.from-u.result c.loop-k.invariant.0 c.loop-k-test.true c.from-u.ensures j g h);
      stride_nonzero = (omega arith, c.requires.grid_order.climbs_right);
    }

pub loop-k-preserved : goal.loop-k-preserved
loop-k-preserved c = let t = c.loop-k-test.true in
    let a = c.args in (
      omega (arith, c.loop-k.invariant.0),
      omega (arith, t),
      grid-more a.q a.place a.row.now a.left_from a.left_end a.right_from a.right_end (a.q * a.q) (held c.args.queue.now c.args.parents.now c.args.count) c.requires.marked c.requires.by_index c.requires.grid_order
          c.loop-k.k c.from-u.result c.loop-k.invariant.0 t c.from-u.ensures _ _ c.loop-k.invariant.2
          (along-from _ a.row.now _ _ _ _ _ _ (sym (line_is c.before.before.before.before.before.before.before.before)) c.expand-end.ensures),
      omega (arith, c.expand-end.auto.queue, c.loop-k.invariant.3),
      omega (arith, c.expand-end.auto.parents, c.loop-k.invariant.4),
    )

pub returns : goal.returns
returns c = let a = c.args in
    grid-end a.q a.place a.row.now a.left_from a.left_end a.right_from a.right_end (a.q * a.q) (held c.args.queue.now c.args.parents.now c.args.count) c.requires.marked c.requires.by_index c.requires.grid_order
    c.loop-k.k c.loop-k.invariant.1 c.loop-k-test.false _ c.loop-k.invariant.2
