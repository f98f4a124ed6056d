-- `doubles::try_block` meets its contract: a name of the block stands twice, or the block does not count. Assumes nothing.
use Rattle.std.proofs.Common.{sym, ◌∙◌}
use Rattle.text.specs.Read.{names_of}
use Rattle.doubles.proofs.Blocks.{told_stand, told-on}
use Rattle.doubles.proofs.try_block.Goals as goal

pub returns-then-stand_twice : goal.returns-then-stand_twice
returns-then-stand_twice c = told_stand (names_of c.args.earlier.now) c.args.v.now c.args.a _ _ c.keep-count.result.next c.keep-count.ensures.kept
    (sym c.stand_twice.ensures ∙ c.if-stand_twice.true)

pub returns : goal.returns
returns c = told-on (names_of c.args.earlier.now) c.args.v.now c.args.a _ _ c.keep-count.result.next c.keep-count.ensures.kept
    (sym c.stand_twice.ensures ∙ c.if-stand_twice.false) c.keep-count.ensures.onward
