-- `text_write::lent::first_bad` meets its contract: gathering on from the index stops where gathering from the start does. Assumes nothing.
use Rattle.std.proofs.Common.{sym, ◌∙◌}
use Rattle.text_write.proofs.LentLaws.{gather-more, gather_stops, gather-ends}
use Rattle.text_write.proofs.lent.first_bad.Goals as goal

pub returns-then-not-is_lent : goal.returns-then-not-is_lent
returns-then-not-is_lent c = let a = c.args in
    let l = c.loop-i in
    sym (gather_stops a.bytes.now a.starts.now a.lengths.now a.m l.i c.loop-i-test.true
    (sym c.is_lent.ensures ∙ c.if-not-is_lent.true))
    ∙ l.invariant

pub loop-i-preserved : goal.loop-i-preserved
loop-i-preserved c = let a = c.args in
    let l = c.loop-i in
    sym (gather-more a.bytes.now a.starts.now a.lengths.now a.m l.i c.loop-i-test.true
    (sym c.is_lent.ensures ∙ c.if-not-is_lent.false))
    ∙ l.invariant

pub returns : goal.returns
returns c = let a = c.args in
    let l = c.loop-i in
    sym (gather-ends a.bytes.now a.starts.now a.lengths.now a.m l.i c.loop-i-test.false) ∙ l.invariant
