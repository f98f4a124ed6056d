use Prim.Native.Nat.{◌+◌, ◌*◌}
use mathlib.Core.Path.{◌≡◌}
use lib.ListN.{length}
use Rattle.caller_rule.specs.RuleRows.{RuleWritten}
use Rattle.caller_rule.specs.Lent.{six_of, SameLoans}
use Rattle.caller_rule.proofs.write_rule.Given as goal

abbrev pub invariant-loop-d : goal.invariant-loop-d
invariant-loop-d l = (l.p ≡ l.at + l.d * length l.callers) × (l.l ≡ l.low + l.d * l.narrow)
    × RuleWritten l.i l.codes l.kinds l.callers l.ranks l.narrow l.low l.at l.d (six_of l.initial.rows) (six_of l.rows) × SameLoans l.initial.rows l.rows
