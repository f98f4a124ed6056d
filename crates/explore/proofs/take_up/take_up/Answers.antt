-- take_up meets its contract: its calls, one after the other, are those of the laws of taking up.
use native.Mathlib.Omega.{arith}
use Prim.Native.Nat.{ℕ, ◌+◌, ◌*◌, ◌/◌, ◌<◌}
use mathlib.Core.Path.{◌≡◌, refl, ap, sym, subst, ◌∙◌}
use mathlib.Core.List.{List}
use lib.ListN.{get_or, length-map}
use Rattle.plans.specs.Plan.{rows, plan_of}
use Rattle.plans.specs.declared.Plan.{Plan}
use Rattle.plans.proofs.PlanLaws.{square-of}
use Rattle.tops.specs.Tops.{top}
use Rattle.explore.specs.State.{State, state, held, Marked, Pushed, flag_base, pairs, plan}
use Rattle.explore.proofs.FlagLaws.{open_range, entry-below}
use Rattle.explore.proofs.PlanFits.{Fitting, fitting-of, order_of, sorted_of, half_of, taken-nothing, taken_none, taken-some}
use Rattle.explore.proofs.take_up.take_up.Goals as goal
use Rattle.explore.proofs.take_up.take_up.Lts as lts
use Rattle.explore.proofs.take_up.take_up.Reads as reads
use Rattle.explore.proofs.take_up.take_up.Tie as tie

abbrev Place-After-plan_at : Type 0
Place-After-plan_at = lts.After-plan_at tie.the-claims reads.Pre reads.Post tie.handed_clauses

-- the plan is that of the index at the place
planned : (c : Place-After-plan_at) → c.plan_at-p.result ≡ plan (rows c.args.ahead.now c.args.number.now c.args.member.now c.args.first.now c.args.after.now) c.args.targets.now c.args.t c.args.m c.args.q (get_or c.args.queue.now c.args.place 0)
planned c = c.plan_at-p.ensures

fits : (c : Place-After-plan_at) → Fitting c.args.targets.now c.args.q c.plan_at-p.result
fits c = let R = rows c.args.ahead.now c.args.number.now c.args.member.now c.args.first.now c.args.after.now in let S = held c.args.queue.now c.args.parents.now c.args.count in
    fitting-of R c.args.targets.now c.args.t c.args.m c.args.q c.requires.laid S c.requires.going c.args.place c.requires.place_lt_count.0 c.plan_at-p.result (planned c)

-- the places stay while flags are set
lowered : {place count : ℕ} {P : ℕ → Type 0} {queue l l' marks : List ℕ} {s : State} → l ≡ l' → Pushed place P (state queue l marks count) s
    → Pushed place P (state queue l' marks count) s
lowered {place} {count} {P} {queue} {marks = marks} {s = s} e p = subst (λ (l : List ℕ). Pushed place P (state queue l marks count) s) e p

marked_with : {Q count : ℕ} {queue l l' marks : List ℕ} → l ≡ l' → Marked Q (state queue l' marks count) → Marked Q (state queue l marks count)
marked_with {Q} {count} {queue} {marks = marks} e g = subst (λ (l : List ℕ). Marked Q (state queue l marks count)) (sym e) g

pub is_idle-requires : goal.is_idle-requires
is_idle-requires c = let S = held c.args.queue.now c.args.parents.now c.args.count in record { fits = c.requires.laid.verified.fits; i_bound = (entry-below c.args.q S c.args.place c.requires.going.marked c.requires.place_lt_count.0, c.requires.place_lt_count.1) }

pub returns-then-is_idle : goal.returns-then-is_idle
returns-then-is_idle c = let R = rows c.args.ahead.now c.args.number.now c.args.member.now c.args.first.now c.args.after.now in let S = held c.args.queue.now c.args.parents.now c.args.count in let i = get_or c.args.queue.now c.args.place 0 in
    let z = c.is_idle.ensures c.if-is_idle.true c.args.number.now c.args.after.now c.args.t c.args.m in
    record { taken_up = taken-nothing R c.args.targets.now c.args.t c.args.m c.args.q c.requires.laid S c.requires.going c.args.place c.requires.place_lt_count.0 (plan_of R c.args.t c.args.m c.args.q i) refl z; looked_value = sym z }

pub plan_at-p-requires : goal.plan_at-p-requires
plan_at-p-requires c = let S = held c.args.queue.now c.args.parents.now c.args.count in record { fits = c.requires.laid.verified.fits; i_bound = (entry-below c.args.q S c.args.place c.requires.going.marked c.requires.place_lt_count.0, c.requires.place_lt_count.1) }

pub overflow_mul-n : goal.overflow_mul-n
overflow_mul-n c = let squares = square-of c.args.q c.requires.laid.verified.fits.four c.requires.laid.verified.fits.few in omega (arith, squares.1)

pub overflow_mul-n-2 : goal.overflow_mul-n-2
overflow_mul-n-2 c = let squares = square-of c.args.q c.requires.laid.verified.fits.four c.requires.laid.verified.fits.few in omega (arith, squares.1)

pub overflow_add-flags : goal.overflow_add-flags
overflow_add-flags c = let squares = square-of c.args.q c.requires.laid.verified.fits.four c.requires.laid.verified.fits.few in omega (arith, squares.1)

pub overflow_mul-flags : goal.overflow_mul-flags
overflow_mul-flags c = let squares = square-of c.args.q c.requires.laid.verified.fits.four c.requires.laid.verified.fits.few in omega (arith, squares.1)

pub open_end-left_end-requires : goal.open_end-left_end-requires
open_end-left_end-requires c = let squares = square-of c.args.q c.requires.laid.verified.fits.four c.requires.laid.verified.fits.few in let f = fits c.before.before.before in
    let long = c.requires.laid.long in
    let few = c.requires.laid.verified.fits.few in
    let room = c.requires.going.marked.marks_room in
    record { span_in_bounds = (omega (arith, f.safe.left), omega (arith, f.safe.left), omega (arith, f.safe.left-base), omega arith, omega arith); stride_bound = λ l. omega (arith, f.left-low l, length-map c.args.parents.now top) }

pub overflow_add-flags-2 : goal.overflow_add-flags-2
overflow_add-flags-2 c = let squares = square-of c.args.q c.requires.laid.verified.fits.four c.requires.laid.verified.fits.few in omega (arith, squares.1)

pub open_end-right_end-requires : goal.open_end-right_end-requires
open_end-right_end-requires c = let squares = square-of c.args.q c.requires.laid.verified.fits.four c.requires.laid.verified.fits.few in let f = fits c.before.before.before.before.before.before.before.before in
    let long = c.requires.laid.long in
    let few = c.requires.laid.verified.fits.few in
    let room = c.requires.going.marked.marks_room in
    let k = c.open_end-left_end.auto in
    record { span_in_bounds = (omega (arith, f.safe.right), omega (arith, f.safe.right), omega (arith, f.safe.right-base), omega arith, omega arith); stride_bound = λ l. omega (arith, f.right-low l, k, length-map c.args.parents.now top) }

pub push_sides-end-requires : goal.push_sides-end-requires
push_sides-end-requires c = let squares = square-of c.args.q c.requires.laid.verified.fits.four c.requires.laid.verified.fits.few in let R = rows c.args.ahead.now c.args.number.now c.args.member.now c.args.first.now c.args.after.now in let S = held c.args.queue.now c.args.parents.now c.args.count in let f = fits c.before.before.before.before.before.before.before.before.before.before.before.before.before in
    let long = c.requires.laid.long in
    let few = c.requires.laid.verified.fits.few in
    let room = c.requires.going.marked.marks_room in
    let x = open_range c.open_end-left_end.ensures.opened in
    let y = open_range c.open_end-right_end.ensures.opened in
    let h = half_of R c.args.targets.now c.args.t c.args.m c.args.q c.requires.laid S c.requires.going c.args.place c.requires.place_lt_count.0 c.plan_at-p.result (planned c.before.before.before.before.before.before.before.before.before.before.before.before.before) _ _ _ _ _ _ (let z : (2 * (c.args.q * c.args.q) + 7) / 8 * 8 ≡ flag_base c.args.q = omega arith in z) refl c.open_end-left_end.ensures.opened c.open_end-right_end.ensures.opened in record { marked = marked_with (c.open_end-right_end.ensures.parents_unchanged ∙ c.open_end-left_end.ensures.parents_unchanged) h.0; q_le_max_states = (omega arith, omega (arith, c.requires.place_lt_count.0, c.requires.going.marked.fits), x.0, omega (arith, x.1, f.safe.left), y.0, omega (arith, y.1, f.safe.right), omega (arith, f.safe.left-base)); by_index = λ z s. f.sides-low _ _ z x.1 y.1 s; sorted = sorted_of R c.args.targets.now c.args.t c.args.m c.args.q c.requires.laid S c.requires.going c.args.place c.requires.place_lt_count.0 c.plan_at-p.result (planned c.before.before.before.before.before.before.before.before.before.before.before.before.before) _ _ _ h.0 x.1 y.1 }

pub overflow_sub-pairs : goal.overflow_sub-pairs
overflow_sub-pairs c = omega (arith, (fits c.before.before.before.before.before.before.before.before.before.before.before.before.before.before.before.before.before.before.before.before).total)

pub overflow_sub-pairs-2 : goal.overflow_sub-pairs-2
overflow_sub-pairs-2 c = omega (arith, (fits c.before.before.before.before.before.before.before.before.before.before.before.before.before.before.before.before.before.before.before.before.before).total)

pub overflow_sub-pairs-3 : goal.overflow_sub-pairs-3
overflow_sub-pairs-3 c = omega (arith, (fits c.before.before.before.before.before.before.before.before.before.before.before.before.before.before.before.before.before.before.before.before.before.before).total)

pub shape_of-queue-then-pairs-eq0 : goal.shape_of-queue-then-pairs-eq0
shape_of-queue-then-pairs-eq0 c = omega (arith, c.push_sides-end.auto.queue)

pub shape_of-parents-then-pairs-eq0 : goal.shape_of-parents-then-pairs-eq0
shape_of-parents-then-pairs-eq0 c = omega (arith, c.push_sides-end.auto.parents, c.open_end-left_end.auto, c.open_end-right_end.auto.parents)

pub returns-then-pairs-eq0 : goal.returns-then-pairs-eq0
returns-then-pairs-eq0 c = let R = rows c.args.ahead.now c.args.number.now c.args.member.now c.args.first.now c.args.after.now in let S = held c.args.queue.now c.args.parents.now c.args.count in record {
  taken_up = taken_none R c.args.targets.now c.args.t c.args.m c.args.q c.requires.laid S c.requires.going c.args.place c.requires.place_lt_count.0 c.plan_at-p.result (planned c.before.before.before.before.before.before.before.before.before.before.before.before.before.before.before.before.before.before.before.before.before.before.before) c.if-pairs-eq0.true _
      ((half_of R c.args.targets.now c.args.t c.args.m c.args.q c.requires.laid S c.requires.going c.args.place c.requires.place_lt_count.0 c.plan_at-p.result (planned c.before.before.before.before.before.before.before.before.before.before.before.before.before.before.before.before.before.before.before.before.before.before.before) _ _ _ _ _ _ (let z : (2 * (c.args.q * c.args.q) + 7) / 8 * 8 ≡ flag_base c.args.q = omega arith in z) refl c.open_end-left_end.ensures.opened c.open_end-right_end.ensures.opened).1 _ (lowered (c.open_end-right_end.ensures.parents_unchanged ∙ c.open_end-left_end.ensures.parents_unchanged) c.push_sides-end.ensures));
  looked_value = ap (λ (P : Plan). P.total) (planned c.before.before.before.before.before.before.before.before.before.before.before.before.before.before.before.before.before.before.before.before.before.before.before);
}

pub nonzero_div-lines : goal.nonzero_div-lines
nonzero_div-lines c = (fits c.before.before.before.before.before.before.before.before.before.before.before.before.before.before.before.before.before.before.before.before.before.before.before.before).columns-some (omega (arith, c.if-pairs-eq0.false))

pub overflow_mul-n-3 : goal.overflow_mul-n-3
overflow_mul-n-3 c = let squares = square-of c.args.q c.requires.laid.verified.fits.four c.requires.laid.verified.fits.few in omega (arith, squares.1)

pub overflow_add-flags-3 : goal.overflow_add-flags-3
overflow_add-flags-3 c = let squares = square-of c.args.q c.requires.laid.verified.fits.four c.requires.laid.verified.fits.few in omega (arith, squares.1)

pub take_pairs-last-requires : goal.take_pairs-last-requires
take_pairs-last-requires c = let squares = square-of c.args.q c.requires.laid.verified.fits.four c.requires.laid.verified.fits.few in let R = rows c.args.ahead.now c.args.number.now c.args.member.now c.args.first.now c.args.after.now in let S = held c.args.queue.now c.args.parents.now c.args.count in let f = fits c.before.before.before.before.before.before.before.before.before.before.before.before.before.before.before.before.before.before.before.before.before.before.before.before.before.before in
    let long = c.requires.laid.long in
    let few = c.requires.laid.verified.fits.few in
    let room = c.requires.going.marked.marks_room in
    let some : 0 < pairs c.plan_at-p.result = omega (arith, c.if-pairs-eq0.false) in
    let h = (half_of R c.args.targets.now c.args.t c.args.m c.args.q c.requires.laid S c.requires.going c.args.place c.requires.place_lt_count.0 c.plan_at-p.result (planned c.before.before.before.before.before.before.before.before.before.before.before.before.before.before.before.before.before.before.before.before.before.before.before.before.before.before) _ _ _ _ _ _ (let z : (2 * (c.args.q * c.args.q) + 7) / 8 * 8 ≡ flag_base c.args.q = omega arith in z) refl c.open_end-left_end.ensures.opened c.open_end-right_end.ensures.opened).1 _ (lowered (c.open_end-right_end.ensures.parents_unchanged ∙ c.open_end-left_end.ensures.parents_unchanged) c.push_sides-end.ensures) in
    let g = h.going.marked in record { marked = g; q_le_max_states = (omega arith, omega (arith, c.requires.place_lt_count.0, c.requires.going.marked.fits), omega arith); lines_nonzero = (f.lines-some some, f.columns-some some, f.lines_fit some, f.columns_fit some, long); right_from_bound = omega (arith, f.pair-low some, room, length-map c.args.parents.now top, c.push_sides-end.auto.parents, c.open_end-left_end.auto, c.open_end-right_end.auto.parents); by_index = f.grid-low some; grid_order = (order_of R c.args.targets.now c.args.t c.args.m c.args.q c.requires.laid S c.requires.going c.args.place c.requires.place_lt_count.0 c.plan_at-p.result (planned c.before.before.before.before.before.before.before.before.before.before.before.before.before.before.before.before.before.before.before.before.before.before.before.before.before.before)).grid some }

pub shape_of-queue : goal.shape_of-queue
shape_of-queue c = omega (arith, c.push_sides-end.auto.queue, c.take_pairs-last.auto.queue)

pub shape_of-parents : goal.shape_of-parents
shape_of-parents c = omega (arith, c.push_sides-end.auto.parents, c.open_end-left_end.auto, c.open_end-right_end.auto.parents, c.take_pairs-last.auto.parents)

pub returns : goal.returns
returns c = let R = rows c.args.ahead.now c.args.number.now c.args.member.now c.args.first.now c.args.after.now in let S = held c.args.queue.now c.args.parents.now c.args.count in let some : 0 < pairs c.plan_at-p.result = omega (arith, c.if-pairs-eq0.false) in record {
  taken_up = taken-some R c.args.targets.now c.args.t c.args.m c.args.q c.requires.laid S c.requires.going c.args.place c.requires.place_lt_count.0 c.plan_at-p.result (planned c.before.before.before.before.before.before.before.before.before.before.before.before.before.before.before.before.before.before.before.before.before.before.before.before.before.before.before.before.before.before.before.before) some _ _ (let z : (2 * (c.args.q * c.args.q) + 7) / 8 * 8 ≡ flag_base c.args.q = omega arith in z) refl _
      ((half_of R c.args.targets.now c.args.t c.args.m c.args.q c.requires.laid S c.requires.going c.args.place c.requires.place_lt_count.0 c.plan_at-p.result (planned c.before.before.before.before.before.before.before.before.before.before.before.before.before.before.before.before.before.before.before.before.before.before.before.before.before.before.before.before.before.before.before.before) _ _ _ _ _ _ (let z : (2 * (c.args.q * c.args.q) + 7) / 8 * 8 ≡ flag_base c.args.q = omega arith in z) refl c.open_end-left_end.ensures.opened c.open_end-right_end.ensures.opened).1 _ (lowered (c.open_end-right_end.ensures.parents_unchanged ∙ c.open_end-left_end.ensures.parents_unchanged) c.push_sides-end.ensures)) _ c.take_pairs-last.ensures;
  looked_value = ap (λ (P : Plan). P.total) (planned c.before.before.before.before.before.before.before.before.before.before.before.before.before.before.before.before.before.before.before.before.before.before.before.before.before.before.before.before.before.before.before.before);
}
