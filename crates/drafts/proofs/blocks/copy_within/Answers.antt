-- `drafts::blocks::copy_within` meets its contract: the entries are pasted one by one, and what is read has not been written.
-- Assumes nothing.
use native.Mathlib.Omega.{arith}
use Rattle.drafts.proofs.Copies.{copy_more}
use Rattle.drafts.proofs.blocks.copy_within.Goals as goal

pub loop-i-preserved : goal.loop-i-preserved
loop-i-preserved c = copy_more c.args.row.now c.loop-i.row c.args.from c.args.to c.args.n c.loop-i.i c.requires (omega arith) c.loop-i.invariant
