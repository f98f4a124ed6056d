-- `joining::naming::meets` meets its contract: no name before the index is among the robot's. Assumes nothing.
use Rattle.std.proofs.Common.{sym, ◌∙◌, arith}
use Rattle.text.specs.Spelled.{spelled}
use Rattle.text.proofs.Spans.{length-spelled}
use Rattle.joining.proofs.Loops.{meet-here, meet-later, meet-end}
use Rattle.joining.proofs.naming.meets.Goals as goal

pub returns-then-number_of-n : goal.returns-then-number_of-n
returns-then-number_of-n c = let l = c.loop-i in
    let a = c.args in
    sym (l.invariant ∙ meet-here (spelled a.addon.now a.firsts.now a.sizes.now) (spelled a.robot.now a.starts.now a.lengths.now) l.i
    (omega (arith, length-spelled a.addon.now a.firsts.now a.sizes.now c.requires.1.paired))
    (omega (arith, c.number_of.ensures, length-spelled a.robot.now a.starts.now a.lengths.now c.requires.0.spans.paired)))

pub loop-i-preserved : goal.loop-i-preserved
loop-i-preserved c = let l = c.loop-i in
    let a = c.args in
    l.invariant ∙ meet-later (spelled a.addon.now a.firsts.now a.sizes.now) (spelled a.robot.now a.starts.now a.lengths.now) l.i
    (omega (arith, length-spelled a.addon.now a.firsts.now a.sizes.now c.requires.1.paired))
    (omega (arith, c.number_of.ensures, length-spelled a.robot.now a.starts.now a.lengths.now c.requires.0.spans.paired))

pub returns : goal.returns
returns c = let l = c.loop-i in
    let a = c.args in
    sym (l.invariant ∙ meet-end (spelled a.addon.now a.firsts.now a.sizes.now) (spelled a.robot.now a.starts.now a.lengths.now) l.i
    (omega (arith, length-spelled a.addon.now a.firsts.now a.sizes.now c.requires.1.paired)))
