-- `text_write::lines::put_rules` meets its contract: the lines of the rules from the offset on are still to come. Assumes nothing.
use Rattle.std.proofs.Common.{refl, arith}
use Rattle.text.specs.Spelled.{spelled}
use Rattle.text_write.proofs.Filling.{filling_room, filling_ran, filling_done}
use Rattle.text_write.proofs.TableLaws.{turn, no_rules}
use Rattle.text_write.proofs.PutLaws.{rules-turn, rules-end}
use Rattle.text_write.proofs.lines.put_rules.Goals as goal

pub bounds-table-o-in-loop-o : goal.bounds-table-o-in-loop-o
bounds-table-o-in-loop-o c = omega (arith, (turn _ c.loop-o.invariant.1 c.loop-o-test.true refl).whole)

pub slice_bounds-put_rule-end : goal.slice_bounds-put_rule-end
slice_bounds-put_rule-end c = omega (arith, (turn _ c.loop-o.invariant.1 c.loop-o-test.true refl).whole)

pub put_rule-j-requires : goal.put_rule-j-requires
put_rule-j-requires c = let a = c.args in
    let here = turn _ c.loop-o.invariant.1 c.loop-o-test.true refl in
    let next = rules-turn a.t (spelled a.bytes.now a.starts.now a.lengths.now) _ _ _ here.rules in
    (c.requires.0, here.known, filling_room _ _ next c.loop-o.invariant.2)

pub loop-o-preserved : goal.loop-o-preserved
loop-o-preserved c = let a = c.args in
    let here = turn _ c.loop-o.invariant.1 c.loop-o-test.true refl in
    let next = rules-turn a.t (spelled a.bytes.now a.starts.now a.lengths.now) _ _ _ here.rules in
    (here.whole, here.next, filling_ran _ _ next c.put_rule-j.ensures c.loop-o.invariant.2)

pub returns : goal.returns
returns c = let a = c.args in
    let l = c.loop-o in
    filling_done (rules-end a.t (spelled a.bytes.now a.starts.now a.lengths.now) _ (no_rules a.table.now l.o c.loop-o-test.false)) l.invariant.2
