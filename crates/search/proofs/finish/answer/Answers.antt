-- answer meets its contract: the mark of (1,1,1) decides which of the two is written, and a marked index stands in the queue.
use mathlib.Core.Path.{◌≡◌, sym, subst, ◌∙◌}
use Prim.Native.Nat.{ℕ, ◌≤◌, ◌<◌}
use native.Mathlib.Omega.{arith}
use lib.ListN.{length, length-map}
use Rattle.grammar.specs.Limits.{limits}
use Rattle.triples.specs.Index.{triple_count}
use Rattle.triples.proofs.Index.{index_below}
use Rattle.tops.specs.Tops.{top, low, tops, lows}
use Rattle.explore.specs.State.{State, held}
use Rattle.search.proofs.FinishLaws.{triples-few, stands, answered-potential, answered-unambiguous}
use Rattle.search.proofs.finish.answer.Goals as goal
use Rattle.search.proofs.finish.answer.Lts as lts
use Rattle.search.proofs.finish.answer.Reads as reads
use Rattle.search.proofs.finish.answer.Tie as tie

abbrev Start : Type 0
Start = lts.Start tie.the-claims reads.Pre reads.Post tie.handed_clauses

abbrev Place-After-index_of : Type 0
Place-After-index_of = lts.After-index_of tie.the-claims reads.Pre reads.Post tie.handed_clauses

-- the rows lent
the_state : Start → State
the_state e = held e.args.queue.now e.args.parents.now e.args.count

wide_row : (e : Start) → (length (lows e.args.parents.now) ≡ length e.args.parents.now) × (length (tops e.args.parents.now) ≡ length e.args.parents.now)
wide_row e = (length-map e.args.parents.now low, length-map e.args.parents.now top)

-- (1,1,1) is a triple
goal_in : (c : Place-After-index_of) → c.index_of-goal.result < triple_count c.args.q
goal_in c =
    subst (λ (i : ℕ). i < triple_count c.args.q) (sym c.index_of-goal.ensures) (index_below c.args.q 1 1 1 (omega arith) (omega (arith, c.requires.le_q.0)) (omega (arith, c.requires.le_q.0)))

pub index_of-goal-requires : goal.index_of-goal-requires
index_of-goal-requires c = (c.requires.le_q.1, omega arith, omega arith, omega arith)

pub is_marked-requires : goal.is_marked-requires
is_marked-requires c = omega (arith, goal_in c.before, c.requires.marked.marks_room, (wide_row c.before.before.before.before.before.before).1)

pub write_witness-number-requires : goal.write_witness-number-requires
unfolding the_state
write_witness-number-requires c = let m = c.requires.marked in
    let few : triple_count c.args.q ≤ triple_count limits.max_states = triples-few c.args.q c.requires.le_q.1 in record { count_in_bounds = (omega (arith, m.fits, m.queue_room), omega (arith, m.fits, m.parents_room, (wide_row c.before.before.before.before.before.before.before.before.before).0), omega (arith, m.fits, c.requires.le_q.3), omega (arith, m.fits, few)); linked = c.requires.linked; stands_in = stands c.args.q (the_state c.before.before.before.before.before.before.before.before.before) c.index_of-goal.result m (goal_in c.before.before.before.before) (sym c.is_marked.ensures ∙ c.if-is_marked.true) }

pub returns-then-is_marked : goal.returns-then-is_marked
unfolding the_state
returns-then-is_marked c = answered-potential (the_state c.before.before.before.before.before.before.before.before.before.before.before.before) c.args.q c.args.looked c.index_of-goal.result c.write_witness-number.result c.args.certificate.now _ _ c.index_of-goal.ensures (sym c.is_marked.ensures ∙ c.if-is_marked.true) c.write_witness-number.ensures

pub copy-requires : goal.copy-requires
copy-requires c = (omega (arith, goal_in c.before.before.before.before, c.requires.marked.parents_room, (wide_row c.before.before.before.before.before.before.before.before.before).0), c.requires.le_q.2)

pub returns : goal.returns
unfolding the_state
returns c = answered-unambiguous (the_state c.before.before.before.before.before.before.before.before.before.before.before.before) c.args.q c.args.looked c.index_of-goal.result _ _ c.args.witness.now c.index_of-goal.ensures (sym c.is_marked.ensures ∙ c.if-is_marked.false) c.copy.ensures
