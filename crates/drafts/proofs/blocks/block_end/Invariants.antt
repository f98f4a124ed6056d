use Prim.Native.Nat.{◌-◌, ◌≤◌}
use mathlib.Core.Path.{◌≡◌}
use lib.ListN.{length}
use Rattle.drafts.specs.Row.{walk, end_of}
use Rattle.drafts.proofs.blocks.block_end.Given as goal

abbrev pub invariant-loop : goal.invariant-loop
invariant-loop l = (l.at ≤ length l.block) × (walk (l.cell - 1 - l.counter) l.block l.at ≡ end_of l.block)
