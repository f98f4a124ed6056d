-- write_way meets its contract: before each step the row has the indices from where the walk is to the place.
use borrow.Author.Rules.{rules}
use mathlib.Core.Path.{◌≡◌, ◌∙◌}
use mathlib.Core.List.{List}
use Prim.Native.Nat.{ℕ, ◌-◌, ◌<◌}
use native.Mathlib.Omega.{arith}
use lib.ListN.{length, get_or, set, length-set}
use Rattle.tops.specs.Tops.{lows}
use Rattle.search.proofs.FinishLaws.{way_start, way_next, way_end, depth_back}
use Rattle.search.proofs.finish.write_way.Goals as goal
use Rattle.search.proofs.finish.write_way.Lts as lts
use Rattle.search.proofs.finish.write_way.Reads as reads
use Rattle.search.proofs.finish.write_way.Tie as tie

abbrev Start : Type 0
Start = lts.Start tie.the-claims reads.Pre reads.Post goal.the-invariant-loop-k goal.the-decreases-loop-k tie.handed_clauses

-- the row with its last index written, and its length
first : Start → List ℕ
first e = set e.args.witness.now e.args.d (get_or e.args.queue.now e.args.place 0)

first-length : (e : Start) → length (first e) ≡ length e.args.witness.now
unfolding first
first-length e = length-set e.args.witness.now e.args.d (get_or e.args.queue.now e.args.place 0)

pub loop-k-init : goal.loop-k-init
loop-k-init c = let a = c.args in
    way_start a.queue.now (lows a.parents.now) a.count a.place a.d a.witness.now c.requires.count_in_bounds.3 c.requires.count_in_bounds.2 c.requires.depth

pub place_at-at-requires : goal.place_at-at-requires
place_at-at-requires c = omega (arith, c.loop-k.invariant.inside, c.requires.count_in_bounds.1)

pub offset_bounds-queue-at-in-loop-k : goal.offset_bounds-queue-at-in-loop-k
offset_bounds-queue-at-in-loop-k c = let l = c.loop-k in
    let b = depth_back (lows c.args.parents.now) l.at l.k (l.k - 1) l.invariant.left (omega (arith, c.loop-k-test.true)) in
    let h : c.place_at-at.result < length c.args.queue.now = omega (arith, b.1, c.place_at-at.ensures, l.invariant.inside, c.requires.count_in_bounds.0) in
    search (rules, h)

pub bounds-queue-at-in-loop-k : goal.bounds-queue-at-in-loop-k
bounds-queue-at-in-loop-k c = let l = c.loop-k in
    let b = depth_back (lows c.args.parents.now) l.at l.k (l.k - 1) l.invariant.left (omega (arith, c.loop-k-test.true)) in
    let h : c.place_at-at.result < length c.args.queue.now = omega (arith, b.1, c.place_at-at.ensures, l.invariant.inside, c.requires.count_in_bounds.0) in
    h

pub bounds-witness-k : goal.bounds-witness-k
unfolding first
bounds-witness-k c = let l = c.loop-k in
    omega (arith, l.invariant.number, l.invariant.long, first-length c.before.before.before.before.before.before.before.before.before, c.requires.count_in_bounds.3)

pub loop-k-preserved : goal.loop-k-preserved
unfolding first
loop-k-preserved c = let l = c.loop-k in
    let a = c.args in
    way_next a.queue.now (lows a.parents.now) a.count a.place a.d (first c.before.before.before.before.before.before.before.before.before) l.witness l.at l.k (l.k - 1) c.place_at-at.result
    (omega (arith, first-length c.before.before.before.before.before.before.before.before.before, c.requires.count_in_bounds.3)) l.invariant (omega (arith, c.loop-k-test.true)) c.place_at-at.ensures

pub shape_of-witness : goal.shape_of-witness
unfolding first
shape_of-witness c = c.loop-k.invariant.long ∙ first-length c.before.before.before.before.before.before.before

pub returns : goal.returns
unfolding first
returns c = let l = c.loop-k in
    let a = c.args in
    way_end a.queue.now (lows a.parents.now) a.count a.place a.d a.witness.now l.witness l.at l.k c.requires.count_in_bounds.4 l.invariant (omega (arith, c.loop-k-test.false))
