-- `text_write::checked_length` meets its contract: 16, then what is answered for the rows cut after the last name. Assumes nothing.
use mathlib.Core.Path.{sym}
use native.Mathlib.Omega.{arith}
use lib.Seq.{length-take-le}
use Rattle.text_write.proofs.TableLaws.{symbols-most}
use Rattle.text_write.proofs.WriteLaws.{length_bad, Lent, lent, ready, length-named}
use Rattle.text_write.proofs.checked_length.Goals as goal
use Rattle.text_write.proofs.checked_length.Lts as lts
use Rattle.text_write.proofs.checked_length.Reads as reads
use Rattle.text_write.proofs.checked_length.Tie as tie

abbrev Place-Else1 : Type 0
Place-Else1 = lts.Else1 tie.the-claims reads.Pre reads.Post

-- all names are lent and well formed
all-lent : (c : Place-Else1) →
    let s = c in let a = s.args in
    Lent a.t a.n a.table.now a.bytes.now a.starts.now a.lengths.now s.requires.grammar s.requires.passes
all-lent c =
    let a = c.args in
    lent a.t a.n a.table.now a.bytes.now a.starts.now a.lengths.now
    c.requires.grammar c.requires.passes c.first_bad-bad.result c.first_bad-bad.ensures c.if-bad-m.false

pub overflow_add-m : goal.overflow_add-m
overflow_add-m c = let a = c.args in
    omega (arith, symbols-most a.t a.n a.table.now c.requires.grammar c.requires.passes)

pub returns-then-bad-m : goal.returns-then-bad-m
returns-then-bad-m c = let a = c.args in
    length_bad a.t a.n a.table.now a.bytes.now a.starts.now a.lengths.now
    c.requires.grammar c.requires.passes c.first_bad-bad.result c.first_bad-bad.ensures c.if-bad-m.true

pub slice_bounds-named_length-end : goal.slice_bounds-named_length-end
slice_bounds-named_length-end c = sym (length-take-le _ _ (all-lent c.before).rows.starts-most)

pub slice_bounds-named_length-end-2 : goal.slice_bounds-named_length-end-2
slice_bounds-named_length-end-2 c = sym (length-take-le _ _ (all-lent c.before).rows.lengths-most)

pub named_length-requires : goal.named_length-requires
named_length-requires c = let a = c.args in
    ready a.t a.n a.table.now a.bytes.now a.starts.now a.lengths.now
    c.requires.grammar c.requires.passes (all-lent c.before)

pub returns : goal.returns
returns c = let a = c.args in
    length-named a.t a.n a.table.now a.bytes.now a.starts.now a.lengths.now
    c.requires.grammar c.requires.passes (all-lent c.before.before) _ c.named_length.ensures
