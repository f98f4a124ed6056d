use mathlib.Core.Path.{◌≡◌}
use Prim.Native.Nat.{◌≤◌, ◌-◌}
use lib.ListN.{length, drop}
use Rattle.grammar.specs.Limits.{limits}
use Rattle.text.specs.Pieces.{split_on}
use Rattle.text.specs.Read.{rule_lines}
use Rattle.text.specs.Spelled.{spelled}
use Rattle.text_read.proofs.RuleLines.{Passed}
use Rattle.text_read.proofs.rules.read_rules.Given as goal

abbrev pub invariant-loop-from : goal.invariant-loop-from
invariant-loop-from l = (l.a ≤ length l.text) × (l.k ≤ l.a) × Passed (rule_lines limits 3 l.t (spelled l.text l.starts l.lengths) (split_on 10 (drop l.from l.text))) l.text l.t (spelled l.text l.starts l.lengths) l.a l.k l.end l.row
    × (length l.row ≡ length l.initial.row)

abbrev pub decreases-loop-from : goal.decreases-loop-from
decreases-loop-from l = length l.text - l.a
