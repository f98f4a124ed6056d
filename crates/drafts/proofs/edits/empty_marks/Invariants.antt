use Prim.Native.Nat.{◌-◌}
use mathlib.Core.Path.{◌≡◌}
use Rattle.drafts.specs.Row.{emptied}
use Rattle.drafts.proofs.edits.empty_marks.Given as goal

abbrev pub invariant-loop-k : goal.invariant-loop-k
invariant-loop-k l = l.row ≡ emptied (l.k - 1) l.initial.row
