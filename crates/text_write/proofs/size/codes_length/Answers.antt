-- `text_write::size::codes_length` meets its contract: the total and what the codes from the index on give are the whole. Assumes nothing.
use Rattle.std.proofs.Common.{ap, get_or, arith}
use Rattle.text_write.proofs.LengthLaws.{codes-more, codes-none}
use Rattle.text_write.proofs.size.codes_length.Goals as goal

pub loop-code-preserved : goal.loop-code-preserved
loop-code-preserved c = let a = c.args in
    omega (
      arith,
      codes-more a.t a.lengths.now a.codes.now c.loop-code.code-index c.loop-code-test.true,
      ap (λ s. get_or a.lengths.now s 0) c.symbol-s.ensures,
    )

pub returns : goal.returns
returns c = let a = c.args in
    omega (arith, codes-none a.t a.lengths.now a.codes.now c.loop-code.code-index c.loop-code-test.false)
