-- `drafts::edits::place_in` meets its contract: what is left of the walk from the place reached is the whole walk.
-- Assumes nothing.
use Prim.Native.Nat.{◌+◌, ◌≤◌}
use mathlib.Core.Path.{◌≡◌, sym, ◌∙◌}
use native.Mathlib.Omega.{arith}
use lib.ListN.{length}
use Rattle.drafts.proofs.Walks.{walk-whole, walk-next, walk_end}
use Rattle.drafts.proofs.edits.place_in.Goals as goal

pub bounds-block-at : goal.bounds-block-at
bounds-block-at c = let l = c.loop in
    let w = walk-whole c.args.m l.counter l.at c.requires.end c.args.block.now c.loop-test.true (l.invariant.1 ∙ c.requires.walks) in
    omega (arith, w)

pub loop-preserved : goal.loop-preserved
loop-preserved c = let l = c.loop in
    let k = c.from-k in
    let w = walk-whole c.args.m l.counter l.at c.requires.end c.args.block.now c.loop-test.true (l.invariant.1 ∙ c.requires.walks) in
    let h : l.at + 2 + k.result ≤ length c.args.block.now = omega (arith, w, k.ensures) in
    (h, walk-next c.args.m l.counter l.at k.result c.args.block.now _ c.loop-test.true k.ensures h l.invariant.1)

pub returns : goal.returns
returns c = let l = c.loop in
    let q : l.counter ≡ c.args.m = omega arith in
    sym l.invariant.1 ∙ walk_end c.args.m l.counter l.at c.args.block.now q
