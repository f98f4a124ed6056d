-- explore meets its contract: each turn takes up the index at the head, and what is found is never more than 2Q².
use native.Mathlib.Omega.{arith}
use Prim.Native.Nat.{ℕ, ◌≤◌, ◌<◌}
use mathlib.Core.Path.{◌≡◌, refl, ap, sym, subst₂, ◌∙◌}
use mathlib.Core.List.{List}
use lib.ListN.{set, length-map, length-set}
use Rattle.grammar.specs.Limits.{limits}
use Rattle.triples.specs.Index.{triple_count}
use Rattle.plans.specs.Plan.{Rows, rows}
use Rattle.bits.specs.Bits.{with_bit}
use Rattle.tops.specs.Tops.{low, tops, lows}
use Rattle.explore.specs.State.{State, state, most_next, looked_in, Laid, Explored}
use Rattle.explore.proofs.AddsLaws.{count_small}
use Rattle.explore.proofs.FlagLaws.{entry-below}
use Rattle.explore.proofs.ExploreLaws.{Turn, some-triples, turn-start, turn-next, turn_end, total-small, looked_fits, looked-none, looked-next}
use Rattle.explore.proofs.explore.Reads as reads
use Rattle.explore.proofs.explore.Lts as lts
use Rattle.explore.proofs.explore.Goals as goal
use Rattle.explore.proofs.explore.Lts as lts
use Rattle.explore.proofs.explore.Reads as reads
use Rattle.explore.proofs.explore.Tie as tie

abbrev Start : Type 0
Start = lts.Start tie.the-claims reads.Pre reads.Post goal.the-invariant-loop-head goal.the-decreases-loop-head tie.handed_clauses

abbrev Place-After-take_up : Type 0
Place-After-take_up = lts.After-take_up tie.the-claims reads.Pre reads.Post goal.the-invariant-loop-head goal.the-decreases-loop-head tie.handed_clauses

table : Start → Rows
table e = rows e.args.ahead.now e.args.number.now e.args.member.now e.args.first.now e.args.after.now

laid : (e : Start) → Laid (table e) e.args.targets.now e.args.t e.args.m e.args.q
unfolding table
laid e = e.requires.laid

many : (e : Start) → 32 ≤ triple_count e.args.q
many e = some-triples (table e) e.args.targets.now e.args.t e.args.m e.args.q (laid e)

-- the search ends as it began, by the rows before the first mark
ended : (R : Rows) (targets : List ℕ) (t m Q : ℕ) → Laid R targets t m Q → {queue places marks places₀ : List ℕ} (marks₀ : List ℕ) {s : State} (head : ℕ) → marks ≡ with_bit marks₀ 0 → places ≡ places₀
    → Turn R targets t m Q (set queue 0 0) places marks head s → s.count ≤ head → Explored R targets t m Q queue places₀ marks₀ s
ended R targets t m Q L {queue} {places₀ = places₀} marks₀ {s = s} head e h w l =
    turn_end R targets t m Q L queue places₀ marks₀ head s (subst₂ (λ (p k : List ℕ). Turn R targets t m Q (set queue 0 0) p k head s) h e w) l

pub inverse_of-inverse-requires : goal.inverse_of-inverse-requires
inverse_of-inverse-requires c = omega (arith, c.requires.laid.verified.fits.four)

pub bounds-queue-0 : goal.bounds-queue-0
bounds-queue-0 c = omega (arith, many c.before.before.before.before, c.requires.q_in_bounds.0)

pub mark-requires : goal.mark-requires
mark-requires c = omega (arith, many c.before.before.before.before, c.requires.q_in_bounds.1)

pub loop-head-init : goal.loop-head-init
unfolding table
loop-head-init c = let a = c.args in (
  subst₂ (λ (places marks : List ℕ). Turn (table c.before.before.before.before.before.before.before.before) a.targets.now a.t a.m a.q (set a.queue.now 0 0) places marks 0 (state (set a.queue.now 0 0) places marks 1))
      (sym c.mark.ensures.places) (sym c.mark.ensures.bits)
      (turn-start (table c.before.before.before.before.before.before.before.before) a.targets.now a.t a.m a.q (laid c.before.before.before.before.before.before.before.before) a.queue.now (lows a.parents.now) (tops a.parents.now) c.requires.q_in_bounds.0
      (omega (arith, c.requires.q_in_bounds.1, length-map a.parents.now low)) c.requires.q_in_bounds.2),
  refl,
  refl,
  looked-none (table c.before.before.before.before.before.before.before.before) a.targets.now a.t a.m a.q (set a.queue.now 0 0),
  omega arith,
)

pub take_up-taken-requires : goal.take_up-taken-requires
take_up-taken-requires c = record { laid = c.requires.laid; going = c.loop-head.invariant.0.going; place_lt_count = (c.loop-head-test.true, c.inverse_of-inverse.ensures) }

inside : (w : Place-After-take_up) → w.loop-head.head < w.loop-head.count
inside w = w.loop-head-test.true

-- the index at the head has no more successors than any index, and no more indices are found than there are
small : (w : Place-After-take_up) → w.take_up-taken.result.looked ≤ most_next
unfolding table
small w =
    let a = w.args in
    omega (arith, w.take_up-taken.ensures.looked_value, total-small (table w.before.before.before.before.before.before.before.before.before.before.before.before) a.targets.now a.t a.m a.q (laid w.before.before.before.before.before.before.before.before.before.before.before.before) _ (entry-below a.q _ w.loop-head.head w.loop-head.invariant.0.going.marked (inside w)))

room : (w : Place-After-take_up) → w.loop-head.head < triple_count limits.max_states
room w =
    omega (arith, w.loop-head.invariant.0.going.marked.fits, count_small w.args.q w.requires.laid.verified.fits.few, inside w)

pub overflow_add-looked : goal.overflow_add-looked
overflow_add-looked c = omega (arith, looked_fits limits.max_states c.loop-head.looked c.take_up-taken.result.looked c.loop-head.head (omega arith) c.loop-head.invariant.4 (small c.before.before.before.before.before.before) (room c.before.before.before.before.before.before))

pub overflow_add-head : goal.overflow_add-head
overflow_add-head c = omega (arith, room c.before.before.before.before.before.before)

pub loop-head-smaller : goal.loop-head-smaller
loop-head-smaller c = omega (arith, c.loop-head.invariant.0.going.marked.fits, inside c.before.before.before.before.before.before)

pub loop-head-preserved : goal.loop-head-preserved
unfolding table
loop-head-preserved c = let a = c.args in (
  turn-next (table c.before.before.before.before.before.before.before.before.before.before.before.before.before.before.before.before.before.before) a.targets.now a.t a.m a.q (laid c.before.before.before.before.before.before.before.before.before.before.before.before.before.before.before.before.before.before) _ _ _ c.loop-head.head _ _ c.loop-head.invariant.0 (inside c.before.before.before.before.before.before) c.take_up-taken.ensures.taken_up,
  omega (arith, c.loop-head.invariant.1, c.take_up-taken.auto.queue),
  omega (arith, c.loop-head.invariant.2, c.take_up-taken.auto.parents),
  looked-next (table c.before.before.before.before.before.before.before.before.before.before.before.before.before.before.before.before.before.before) a.targets.now a.t a.m a.q c.loop-head.head _ _ c.take_up-taken.ensures.taken_up (inside c.before.before.before.before.before.before) c.loop-head.looked c.take_up-taken.result.looked c.loop-head.invariant.3 c.take_up-taken.ensures.looked_value,
  omega (arith, c.loop-head.invariant.4, small c.before.before.before.before.before.before),
)

pub shape_of-queue : goal.shape_of-queue
shape_of-queue c = omega (arith, c.loop-head.invariant.1, length-set c.args.queue.now 0 0)

pub shape_of-parents : goal.shape_of-parents
shape_of-parents c = omega (arith, c.loop-head.invariant.2, c.mark.auto)

pub returns : goal.returns
unfolding table
returns c = let a = c.args in
    let all : c.loop-head.head ≡ c.loop-head.count = omega (arith, c.loop-head-test.false, c.loop-head.invariant.0.inside) in record {
      explored = ended (table c.before.before.before.before.before.before.before.before.before) a.targets.now a.t a.m a.q (laid c.before.before.before.before.before.before.before.before.before) (tops a.parents.now) c.loop-head.head c.mark.ensures.bits
          c.mark.ensures.places c.loop-head.invariant.0 c.loop-head-test.false;
      looked_value = c.loop-head.invariant.3 ∙ ap (looked_in (table c.before.before.before.before.before.before.before.before.before) a.targets.now a.t a.m a.q c.loop-head.queue) all;
      turns_value = all;
    }
