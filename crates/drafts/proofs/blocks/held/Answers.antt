-- `drafts::blocks::held` meets its contract: the part that is lent is the block.
-- Assumes nothing.
use Prim.Native.Nat.{◌+◌, ◌-◌, ◌*◌}
use mathlib.Core.Path.{◌≡◌}
use native.Mathlib.Omega.{arith}
use Rattle.drafts.specs.Row.{block_size}
use Rattle.drafts.proofs.blocks.held.Goals as goal

pub returns : goal.returns
returns c = let from = 2 + c.args.j * block_size in
    let z : from + block_size - from ≡ block_size = omega arith in
    rw z at c.block_end.ensures
