use mathlib.Core.Path.{◌≡◌}
use Rattle.grammar.specs.Limits.{limits}
use Rattle.live.specs.Marks.{before}
use Rattle.caller_rows.specs.Clauses.{start_of}
use Rattle.caller_rule.specs.RuleRows.{Wide, Alike}
use Rattle.caller_rows.specs.LevelRows.{RulesWritten}
use Rattle.caller_rule.specs.Lent.{six_of, SameLoans}
use Rattle.caller_rows.proofs.level.write_rules.Given as goal

abbrev pub invariant-loop-i : goal.invariant-loop-i
invariant-loop-i l = (l.at ≡ start_of l.lengths l.widths l.i) × (l.low ≡ start_of l.lengths l.below l.i) × (l.u ≡ before l.lengths l.i)
    × Wide limits.max_states (six_of l.rows)
    × RulesWritten l.lefts l.lengths l.codes l.kinds l.first l.callers l.below l.widths l.ranks l.i (six_of l.initial.rows) (six_of l.rows)
    × Alike (six_of l.initial.rows) (six_of l.rows)
    × SameLoans l.initial.rows l.rows
