-- `doubles::shared` meets its contract: the names from the next place on meet those of the lexicon if any from place a on do. Assumes nothing.
use native.Mathlib.Omega.{arith}
use mathlib.Core.Path.{refl, sym, ◌∙◌}
use Rattle.doubles.proofs.Blocks.{meet-found, meet-on, meet-past}
use Rattle.doubles.proofs.shared.Goals as goal

pub loop-next-init : goal.loop-next-init
loop-next-init c = refl

pub returns-then-find-starts : goal.returns-then-find-starts
returns-then-find-starts c = let f = c.find-e in let a = c.args in
    sym (sym c.loop-next.invariant ∙ meet-found a.u.now a.v.now a.starts.now a.lengths.now c.loop-next.next f.result c.find.result
    (omega arith) f.ensures.at c.requires.spans.paired c.find.ensures c.if-find-starts.true)

pub loop-next-preserved : goal.loop-next-preserved
loop-next-preserved c = let f = c.find-e in let a = c.args in
    sym (meet-on a.u.now a.v.now a.starts.now a.lengths.now c.loop-next.next f.result c.find.result
    (omega arith) f.ensures.at c.requires.spans.paired c.find.ensures c.if-find-starts.false) ∙ c.loop-next.invariant

pub returns : goal.returns
returns c = sym (sym c.loop-next.invariant ∙ meet-past c.args.u.now c.loop-next.next _ (omega (arith, c.loop-next-test.false)))
