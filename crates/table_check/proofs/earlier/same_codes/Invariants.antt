use Prim.Native.Nat.{◌+◌, ◌*◌}
use mathlib.Core.Path.{◌≡◌}
use lib.ListN.{drop}
use Rattle.grammar.specs.TableCheck.{same_codes}
use Rattle.table_check.proofs.earlier.same_codes.Given as goal

abbrev pub invariant-loop-g : goal.invariant-loop-g
invariant-loop-g l = same_codes (drop (2 + 4 * l.g) l.a) (drop (2 + 4 * l.g) l.b) ≡ same_codes l.a l.b

abbrev pub invariant-loop-i : goal.invariant-loop-i
invariant-loop-i l = same_codes (drop l.i l.a) (drop l.i l.b) ≡ same_codes l.a l.b
