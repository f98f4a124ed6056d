-- `doubles::keep` meets its contract: the names kept, and those from the next place on, are all from place a on. Assumes nothing.
use Rattle.std.proofs.Common.{arith}
use Rattle.doubles.proofs.Blocks.{block_none, block_more}
use Rattle.doubles.proofs.keep.Goals as goal

pub loop-k-init : goal.loop-k-init
loop-k-init c = record { onward = omega arith; kept = block_none c.args.v.now c.args.a }

pub loop-k-preserved : goal.loop-k-preserved
loop-k-preserved c = record {
  onward = omega (arith, c.find-e.ensures.low);
  kept = block_more c.args.v.now c.args.a c.loop-k.next c.find-e.result (omega (arith, c.if-n-next.false)) c.find-e.ensures.at c.loop-k.starts c.loop-k.lengths c.loop-k.k (omega arith) (omega (arith, c.requires.3)) c.loop-k.invariant.kept;
}
