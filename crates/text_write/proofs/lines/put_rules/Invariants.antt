use Prim.Native.Nat.{◌-◌, ◌≤◌}
use lib.ListN.{length, drop}
use Rattle.text.specs.Spelled.{spelled}
use Rattle.text_write.specs.Clauses.{Coded, rules_text}
use Rattle.text_write.proofs.Filling.{Filling}
use Rattle.text_write.proofs.lines.put_rules.Given as goal

abbrev pub invariant-loop-o : goal.invariant-loop-o
invariant-loop-o l = (l.o ≤ length l.table) × Coded l.t (length l.starts) (drop l.o l.table)
    × Filling l.at l.initial.out (rules_text l.t (spelled l.bytes l.starts l.lengths) l.table) l.j l.out
    (rules_text l.t (spelled l.bytes l.starts l.lengths) (drop l.o l.table))

abbrev pub decreases-loop-o : goal.decreases-loop-o
decreases-loop-o l = length l.table - l.o
