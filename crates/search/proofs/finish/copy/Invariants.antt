use mathlib.Core.Path.{◌≡◌}
use mathlib.Core.List.{◌++◌}
use Prim.Native.Nat.{◌≤◌}
use lib.ListN.{length, take, drop}
use Rattle.tops.specs.Tops.{tops}
use Rattle.search.proofs.finish.copy.Given as goal

abbrev pub invariant-loop-i : goal.invariant-loop-i
invariant-loop-i l = (l.i ≤ l.n) × (l.to ≡ take l.i (tops l.from) ++ drop l.i l.initial.to) × (length l.to ≡ length l.initial.to)
