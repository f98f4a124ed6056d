-- push meets its contract: an index that is not marked is added, and there is room for it; the marks are the top bytes of the parents.
use mathlib.Core.Path.{◌≡◌, sym, ap, ◌∙◌, subst₂}
use mathlib.Core.Bool.{false}
use mathlib.Core.List.{List}
use Prim.Native.Nat.{ℕ, ◌+◌, ◌≤◌, ◌<◌}
use native.Mathlib.Omega.{arith}
use lib.ListN.{length, set, length-map}
use Rattle.triples.specs.Index.{triple_count}
use Rattle.triples.specs.Certificate.{is_set}
use Rattle.explore.specs.State.{State, state, Pushed}
use Rattle.explore.proofs.AddsLaws.{added-room, count_small, pushed-old, pushed-new}
use Rattle.tops.specs.Tops.{low, tops, lows}
use Rattle.explore.proofs.push.push.Goals as goal
use Rattle.explore.proofs.push.push.Lts as lts
use Rattle.explore.proofs.push.push.Reads as reads
use Rattle.explore.proofs.push.push.Tie as tie

abbrev Start : Type 0
Start = lts.Start tie.the-claims reads.Pre reads.Post tie.handed_clauses

abbrev Place-Else1 : Type 0
Place-Else1 = lts.Else1 tie.the-claims reads.Pre reads.Post tie.handed_clauses

abbrev rows : Start → State
rows e = state e.args.queue.now (lows e.args.parents.now) (tops e.args.parents.now) e.args.count

fresh : (c : Place-Else1) → is_set (tops c.args.parents.now) c.args.to ≡ false
fresh c = sym c.is_marked.ensures ∙ c.if-is_marked.false

room : (c : Place-Else1) → c.args.count < triple_count c.args.q
room c =
    added-room c.args.q c.args.place (rows c.before.before.before.before) c.args.to c.requires.marked c.requires.q_le_max_states.2 (fresh c)

long : (e : Start) → triple_count e.args.q ≤ length e.args.parents.now
long e = omega (arith, e.requires.marked.parents_room, length-map e.args.parents.now low)

pub is_marked-requires : goal.is_marked-requires
is_marked-requires c = omega (arith, long c.before.before.before, c.requires.q_le_max_states.2)

pub returns-then-is_marked : goal.returns-then-is_marked
returns-then-is_marked c = pushed-old c.args.place c.args.to (rows c.before.before.before.before.before) (sym c.is_marked.ensures ∙ c.if-is_marked.true)

pub mark-requires : goal.mark-requires
mark-requires c = omega (arith, long c.before.before.before.before.before.before, c.requires.q_le_max_states.2)

pub put_place-requires : goal.put_place-requires
put_place-requires c = (omega (arith, long c.before.before.before.before.before.before.before.before.before.before, room c.before.before.before.before.before.before), omega (arith, count_small c.args.q c.requires.q_le_max_states.0, c.requires.q_le_max_states.1))

pub overflow_cast-queue : goal.overflow_cast-queue
overflow_cast-queue c = omega (arith, count_small c.args.q c.requires.q_le_max_states.0, c.requires.q_le_max_states.2)

pub bounds-queue-count : goal.bounds-queue-count
bounds-queue-count c = omega (arith, room c.before.before.before.before.before.before.before.before.before, c.requires.marked.queue_room)

pub overflow_add-result : goal.overflow_add-result
overflow_add-result c = omega (arith, room c.before.before.before.before.before.before.before.before.before, count_small c.args.q c.requires.q_le_max_states.0)

pub returns : goal.returns
returns c = let a = c.args in
    let m = c.mark.ensures in
    let p = c.put_place.ensures in
    subst₂
    (λ (l t : List ℕ). Pushed a.place (λ x. x ≡ a.to) (rows c.before.before.before.before.before.before.before.before.before.before.before.before.before) (state (set a.queue.now a.count a.to) l t (a.count + 1)))
    (sym (p.places ∙ ap (λ (l : List ℕ). set l a.count a.place) m.places)) (sym (p.bits ∙ m.bits))
    (pushed-new a.q a.place a.to (rows c.before.before.before.before.before.before.before.before.before.before.before.before.before) c.requires.marked c.requires.q_le_max_states.2 (fresh c.before.before.before.before.before.before.before.before.before))
