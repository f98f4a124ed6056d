-- `joining::gathering::put_all` meets its contract: up to the index the names are put. Assumes nothing.
use Rattle.std.proofs.Common.{List, ℕ, subst, arith}
use Rattle.std.proofs.Math.Seq.{take_all}
use Rattle.text.specs.Spelled.{spelled}
use Rattle.joining.specs.Gathering.{Puts}
use Rattle.joining.proofs.GatherLaws.{puts_next, listed_count}
use Rattle.joining.proofs.gathering.put_all.Goals as goal

pub loop-i-preserved : goal.loop-i-preserved
loop-i-preserved c = let l = c.loop-i in
    let a = c.args in
    let n = listed_count a.text.now a.starts.now a.lengths.now c.requires.listed in
    puts_next (spelled a.text.now a.starts.now a.lengths.now) l.i (omega (arith, n, c.loop-i-test.true)) l.invariant c.put_one.ensures

pub returns : goal.returns
returns c = let l = c.loop-i in
    let a = c.args in
    let n = listed_count a.text.now a.starts.now a.lengths.now c.requires.listed in
    subst (λ (more : List (List ℕ)). Puts more a.k a.bytes.now a.places.now a.spans.now l.bytes l.places l.spans)
    (take_all l.i (spelled a.text.now a.starts.now a.lengths.now) (omega (arith, n, c.loop-i-test.false))) l.invariant
