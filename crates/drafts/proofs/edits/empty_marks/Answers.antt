-- `drafts::edits::empty_marks` meets its contract: the marks up to the one reached are empty.
-- Assumes nothing.
use native.Mathlib.Omega.{arith}
use Rattle.drafts.proofs.Entries.{emptied-more, emptied-none}
use Rattle.drafts.proofs.edits.empty_marks.Goals as goal

pub loop-k-init : goal.loop-k-init
loop-k-init c = emptied-none c.args.row.now

pub loop-k-preserved : goal.loop-k-preserved
loop-k-preserved c = emptied-more c.loop-k.k c.loop-k.row c.args.row.now (omega arith) c.loop-k.invariant
