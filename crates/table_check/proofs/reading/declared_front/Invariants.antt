use Prim.Native.Nat.{◌+◌}
use mathlib.Core.Path.{◌≡◌}
use lib.ListN.{drop}
use Rattle.grammar.specs.Limits.{limits}
use Rattle.grammar.specs.TableCheck.{declared_front}
use Rattle.table_check.proofs.reading.declared_front.Given as goal

abbrev pub invariant-loop-i : goal.invariant-loop-i
invariant-loop-i l = l.i + declared_front limits l.t l.n (drop l.i l.right) ≡ declared_front limits l.t l.n l.right
