use mathlib.Core.Path.{◌≡◌}
use Prim.Native.Nat.{◌+◌, ◌-◌, ◌≤◌}
use lib.ListN.{length, drop}
use Rattle.grammar.specs.Limits.{limits}
use Rattle.grammar.specs.Table.{decode}
use Rattle.text_write.specs.Length.{rules_length}
use Rattle.text_write.specs.Clauses.{Coded}
use Rattle.text_write.proofs.size.rules_length.Given as goal

abbrev pub invariant-loop-o : goal.invariant-loop-o
invariant-loop-o l = (l.o ≤ length l.table) × Coded l.t (length l.lengths) (drop l.o l.table)
    × (l.total + rules_length limits l.t l.lengths (decode (drop l.o l.table)) ≡ rules_length limits l.t l.lengths (decode l.table))

abbrev pub decreases-loop-o : goal.decreases-loop-o
decreases-loop-o l = length l.table - l.o
