-- `drafts::edits::remove` meets its contract: what follows the rule is copied down, and the number of rules is one less.
-- Assumes nothing.
use Prim.Native.Nat.{◌+◌, ◌-◌}
use native.Mathlib.Omega.{arith}
use Rattle.drafts.proofs.Removals.{remove_apart, remove_cell, remove_row}
use Rattle.drafts.proofs.edits.remove.Goals as goal

pub copy_within-requires : goal.copy_within-requires
copy_within-requires c = remove_apart c.args.row.now c.args.from c.args.end _ c.requires c.from.ensures

pub overflow_sub-row : goal.overflow_sub-row
overflow_sub-row c =
    let z = remove_cell c.args.row.now _ c.args.from c.args.end _ _ c.requires c.copy_within.ensures in
    let o = c.requires.one in
    omega (arith, z, o)

pub returns : goal.returns
returns c = remove_row c.args.row.now _ c.args.from c.args.end _ c.requires c.from.ensures c.copy_within.ensures
