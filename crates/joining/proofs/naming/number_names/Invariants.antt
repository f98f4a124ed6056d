use Rattle.std.proofs.Common.{◌≡◌, ◌≤◌, ◌+◌, ◌++◌, length, take, drop}
use Rattle.text.specs.Spelled.{spelled}
use Rattle.modules.specs.Joined.{added}
use Rattle.joining.specs.Numbers.{numbered}
use Rattle.joining.proofs.naming.number_names.Given as goal

abbrev pub invariant-loop-i : goal.invariant-loop-i
invariant-loop-i l = (l.next ≤ length l.starts + l.i)
    × (l.next ≡ length l.starts + length (added (spelled l.robot l.starts l.lengths) (take l.i (spelled l.addon l.firsts l.sizes))))
    × (l.numbers ≡ numbered (spelled l.robot l.starts l.lengths) (length l.starts) (take l.i (spelled l.addon l.firsts l.sizes)) ++ drop l.i l.initial.numbers)
