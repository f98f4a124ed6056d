-- skip_zeros meets its contract: every bit before the byte looked at is clear.
use Rattle.bits.proofs.WindowLaws.{clear_eight}
use Rattle.bits.proofs.skip_zeros.Goals as goal

pub loop-b-preserved : goal.loop-b-preserved
loop-b-preserved c = let o = c in let l = o.loop-b in let a = o.args in clear_eight a.bytes.now a.from l.b o.eight_bytes.result l.invariant o.loop-b-test.true o.eight_bytes.ensures c.if-eight_bytes-ne0.false
