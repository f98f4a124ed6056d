use Prim.Native.Nat.{◌-◌, ◌≤◌}
use mathlib.Core.Path.{◌≡◌}
use lib.ListN.{length}
use Rattle.drafts.specs.Row.{walk}
use Rattle.drafts.proofs.edits.place_in.Given as goal

abbrev pub invariant-loop : goal.invariant-loop
invariant-loop l = (l.at ≤ length l.block) × (walk (l.m - l.counter) l.block l.at ≡ walk l.m l.block 1)
