-- row_fault meets its contract: before turn i the first i places are passed, and each way out is one case of the definition.
use native.Mathlib.Omega.{arith}
use Rattle.sentence_trees.proofs.Faults.{passed_start, passed-more, passed-full, passed-low, passed-high, passed-end}
use Rattle.sentence_trees.proofs.row_fault.Goals as goal

pub loop-i-init : goal.loop-i-init
loop-i-init c = (omega arith, passed_start c.args.t c.args.row.now)

pub returns-then-i-ge-MAX_ROW : goal.returns-then-i-ge-MAX_ROW
returns-then-i-ge-MAX_ROW c = let a = c.args in
    let l = c.loop-i in
    (passed-full a.t l.i a.row.now c.if-i-ge-MAX_ROW.true l.invariant.0 l.invariant.1, omega arith)

pub returns-then-x-lt1 : goal.returns-then-x-lt1
returns-then-x-lt1 c = let a = c.args in
    let l = c.loop-i in
    (passed-low a.t l.i a.row.now c.if-i-ge-MAX_ROW.false (omega arith) c.if-x-lt1.true l.invariant.1, omega arith)

pub returns-then-t-x : goal.returns-then-t-x
returns-then-t-x c = let a = c.args in
    let l = c.loop-i in
    (passed-high a.t l.i a.row.now c.if-i-ge-MAX_ROW.false (omega arith) c.if-x-lt1.false c.if-t-x.true l.invariant.1, omega arith)

pub loop-i-preserved : goal.loop-i-preserved
loop-i-preserved c = let a = c.args in
    let l = c.loop-i in
    (omega (arith, c.if-i-ge-MAX_ROW.false), passed-more a.t l.i a.row.now c.if-i-ge-MAX_ROW.false (omega arith) c.if-x-lt1.false c.if-t-x.false l.invariant.1)

pub returns : goal.returns
returns c = let l = c.loop-i in omega (arith, passed-end c.args.t l.i c.args.row.now (omega arith) l.invariant.1)
