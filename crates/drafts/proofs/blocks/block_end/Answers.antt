-- `drafts::blocks::block_end` meets its contract: what is left of the walk from the place reached is the walk from the start.
-- Assumes nothing.
use Prim.Native.Nat.{◌+◌, ◌-◌, ◌≤◌, ◌<◌}
use mathlib.Core.Path.{◌≡◌, sym, ◌∙◌}
use native.Mathlib.Omega.{arith}
use lib.ListN.{length}
use Rattle.std.proofs.lemmas.Bool.Decides.{nat_tests}
use Rattle.drafts.proofs.Walks.{walk_start, walk-on, walk-short, walk_cut, walk_end, end_none, no_entry}
use Rattle.drafts.proofs.blocks.block_end.Goals as goal

pub returns-then-is_empty : goal.returns-then-is_empty
returns-then-is_empty c = let b = c.args.block.now in let z : length b < 1 = grind (arith, nat_tests) in end_none b (no_entry b z)

pub returns-then-cell-lt1 : goal.returns-then-cell-lt1
returns-then-cell-lt1 c = end_none c.args.block.now (omega (arith, c.from-cell.ensures))

pub loop-init : goal.loop-init
loop-init c = (grind (arith, nat_tests), walk_start c.args.block.now c.from-cell.result c.from-cell.ensures (omega (arith, c.if-cell-lt1.false)))

pub returns-then-block-at-lt2 : goal.returns-then-block-at-lt2
returns-then-block-at-lt2 c = let l = c.loop in
    sym l.invariant.1 ∙ walk-short (c.from-cell.result - 1) l.counter l.at c.args.block.now c.loop-test.true c.if-block-at-lt2.true l.invariant.0

pub returns-then-block-start : goal.returns-then-block-start
returns-then-block-start c = let l = c.loop in
    sym l.invariant.1 ∙ walk_cut (c.from-cell.result - 1) l.counter l.at c.args.block.now c.loop-test.true (omega arith) (omega (arith, c.from-k.ensures))

pub loop-preserved : goal.loop-preserved
loop-preserved c = let l = c.loop in
    let k = c.from-k in
    let h : l.at + 2 + k.result ≤ length c.args.block.now = omega arith in
    (h, walk-on (c.from-cell.result - 1) l.counter l.at k.result c.args.block.now c.loop-test.true k.ensures h l.invariant.1)

pub returns : goal.returns
returns c = let l = c.loop in
    let m = c.from-cell.result - 1 in
    let q : l.counter ≡ m = omega arith in
    sym l.invariant.1 ∙ walk_end m l.counter l.at c.args.block.now q
