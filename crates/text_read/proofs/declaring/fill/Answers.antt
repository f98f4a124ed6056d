-- `text_read::declaring::fill` meets its contract: the entries put so far, and those of the names from the cursor on, make up all. Assumes nothing.
use native.Mathlib.Omega.{arith}
use mathlib.Core.Path.{◌≡◌, refl, ap, ◌∙◌}
use Prim.Native.Nat.{◌+◌}
use lib.ListN.{length, drop, length-set}
use native.Mathlib.Nat.{add-zero}
use Rattle.text.specs.Read.{names_of}
use Rattle.text.specs.Promise.{starts_from, name_lengths}
use Rattle.text.proofs.Pieces.{split_pos}
use Rattle.names.proofs.Pieces.{piece_more, piece_last, names-split, names-none}
use Rattle.text_read.proofs.Rows.{filling_start, filling_put, filling_done, filling_none, starts_more, starts-last, lengths-more, lengths-last, starts_none, lengths_none}
use Rattle.text_read.proofs.declaring.fill.Goals as goal

pub returns-then-n-eq0 : goal.returns-then-n-eq0
returns-then-n-eq0 c = let e = c.args in
    let q = names-none e.v.now c.if-n-eq0.true in record { firsts = filling_none e.k _ _ _ (ap (starts_from _) q ∙ starts_none _) (ap length q); sizes = filling_none e.k _ _ _ (ap name_lengths q ∙ lengths_none) (ap length q) }

pub loop-base-init : goal.loop-base-init
loop-base-init c = let q = names-split c.args.v.now (omega arith) in
    (omega arith, rw q, filling_start (rw (q, add-zero)), filling_start (rw q))

pub bounds-starts-j : goal.bounds-starts-j
bounds-starts-j c = omega (arith, split_pos 44 (drop c.loop-base.a c.args.v.now))

pub bounds-lengths-j : goal.bounds-lengths-j
bounds-lengths-j c = omega (arith, split_pos 44 (drop c.loop-base.a c.args.v.now))

pub shape_of-starts-then-n-e : goal.shape_of-starts-then-n-e
shape_of-starts-then-n-e c = simp length-set c.loop-base.invariant.2.long

pub shape_of-lengths-then-n-e : goal.shape_of-lengths-then-n-e
shape_of-lengths-then-n-e c = simp length-set c.loop-base.invariant.3.long

pub returns-then-n-e : goal.returns-then-n-e
returns-then-n-e c = let v = c.args.v.now in
    let l = c.loop-base in
    let p = split_pos 44 (drop l.a v) in
    let q : c.args.k + length (names_of v) ≡ l.j + 1
    = omega (arith, ap length (piece_last 44 v l.a c.find-e.result (omega arith) c.find-e.ensures.at c.if-n-e.true), l.invariant.1) in record {
      firsts = filling_done _ refl q (filling_put _ (omega arith)
          (starts-last v l.a c.find-e.result (omega arith) c.find-e.ensures.at c.args.base c.if-n-e.true) l.invariant.2);
      sizes = filling_done _ refl q (filling_put _ (omega arith)
          (lengths-last v l.a c.find-e.result (omega arith) c.find-e.ensures.at c.if-n-e.true) l.invariant.3);
    }

pub loop-base-preserved : goal.loop-base-preserved
loop-base-preserved c = let v = c.args.v.now in
    let l = c.loop-base in
    let p = split_pos 44 (drop l.a v) in (
      omega arith,
      omega (arith, ap length (piece_more 44 v l.a c.find-e.result (omega arith) c.find-e.ensures.at c.if-n-e.false), l.invariant.1),
      filling_put _ (omega arith) (starts_more v l.a c.find-e.result (omega arith) c.find-e.ensures.at c.args.base c.if-n-e.false) l.invariant.2,
      filling_put _ (omega arith) (lengths-more v l.a c.find-e.result (omega arith) c.find-e.ensures.at c.if-n-e.false) l.invariant.3,
    )
