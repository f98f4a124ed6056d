-- mark_codes meets its contract: the codes before the one at hand are marked, n marks are new.
use borrow.Author.Rules.{rules}
use native.Mathlib.Omega.{arith}
use Rattle.live.proofs.MarkLaws.{passed-few, codes-more, codes-end}
use Rattle.live.proofs.marks.mark_codes.Goals as goal

pub overflow_add-n : goal.overflow_add-n
overflow_add-n c = let l = c.loop-x in
    let h = c.requires l.x-index (omega arith) in
    let few = passed-few (codes-more c.args.codes.now l.x-index c.args.marks.now l.marks _ l.n _ (omega arith) (omega (arith, h, l.invariant.long)) l.invariant
    c.mark-n.ensures.marks_after c.mark-n.ensures.value) in
    search (rules, few)

pub loop-x-preserved : goal.loop-x-preserved
loop-x-preserved c = let l = c.loop-x in
    let h = c.requires l.x-index (omega arith) in
    codes-more c.args.codes.now l.x-index c.args.marks.now l.marks _ l.n _ (omega arith) (omega (arith, h, l.invariant.long)) l.invariant
    c.mark-n.ensures.marks_after c.mark-n.ensures.value

pub returns : goal.returns
returns c = codes-end c.args.codes.now c.loop-x.x-index c.args.marks.now _ _ (omega arith) c.loop-x.invariant
