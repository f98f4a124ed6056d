-- `readings_read::pieces::mark` meets its contract: the digits up to the index say x, which is at most the number of rules.
-- Assumes nothing.
use native.Mathlib.Omega.{arith}
use mathlib.Core.Path.{sym, ◌∙◌}
use Rattle.readings_read.proofs.Marks.{mark-none, mark-zero, mark-led, mark-start, mark-end, mark-low, mark-high, mark-more, mark_big}
use Rattle.readings_read.proofs.pieces.mark.Goals as goal

pub returns-then-n-eq0 : goal.returns-then-n-eq0
returns-then-n-eq0 c = let a = c.args in sym (mark-none a.kind a.count a.s.now c.if-n-eq0.true)

pub returns-then-n-eq1 : goal.returns-then-n-eq1
returns-then-n-eq1 c = let a = c.args in sym (mark-zero a.kind a.count a.s.now c.if-n-eq1.true c.if-s-eq-ZERO.true)

pub returns-then-s-eq-ZERO : goal.returns-then-s-eq-ZERO
returns-then-s-eq-ZERO c = let a = c.args in
    sym (mark-led a.kind a.count a.s.now (omega (arith, c.if-n-eq1.false, c.if-n-eq0.false)) c.if-s-eq-ZERO.true)

pub loop-b-init : goal.loop-b-init
loop-b-init c = let a = c.args in
    (omega arith, mark-start a.kind a.count a.s.now (omega (arith, c.if-n-eq0.false)) c.if-s-eq-ZERO.false)

pub returns-then-b-lt-ZERO : goal.returns-then-b-lt-ZERO
returns-then-b-lt-ZERO c = let a = c.args in
    sym (c.loop-b.invariant.1 ∙ mark-low a.kind a.count c.loop-b.x a.s.now c.loop-b.b-index (omega arith) c.if-b-lt-ZERO.true)

pub returns-then-b-gt-NINE : goal.returns-then-b-gt-NINE
returns-then-b-gt-NINE c = let a = c.args in
    sym (c.loop-b.invariant.1 ∙ mark-high a.kind a.count c.loop-b.x a.s.now c.loop-b.b-index (omega arith) c.if-b-gt-NINE.true)

pub returns-then-count-x : goal.returns-then-count-x
returns-then-count-x c = let a = c.args in
    sym (c.loop-b.invariant.1 ∙ mark_big a.kind a.count c.loop-b.x a.s.now c.loop-b.b-index (omega arith) c.if-b-lt-ZERO.false c.if-b-gt-NINE.false c.if-count-x.true)

pub loop-b-preserved : goal.loop-b-preserved
loop-b-preserved c = let a = c.args in (
  c.if-count-x.false,
  c.loop-b.invariant.1 ∙ mark-more a.kind a.count c.loop-b.x a.s.now c.loop-b.b-index (omega arith) c.if-b-lt-ZERO.false c.if-b-gt-NINE.false,
)

pub returns : goal.returns
returns c = let a = c.args in
    sym (c.loop-b.invariant.1 ∙ mark-end a.kind a.count c.loop-b.x a.s.now c.loop-b.b-index (omega arith) c.loop-b.invariant.0)
