use Rattle.caller_rule.specs.RuleRows.{six, ItemWritten}
use Rattle.std.specs.Option.{is_none, unwrap_or}
use Rattle.caller_rule.proofs.write_item.Given as goal

abbrev pub invariant-loop-r : goal.invariant-loop-r
invariant-loop-r l = ItemWritten l.i (unwrap_or l.x 0) (unwrap_or l.y 0) (is_none l.y) (is_none l.x) l.kinds l.callers l.ranks l.low l.behind l.at l.r (six l.initial.ahead l.initial.number l.initial.member l.initial.target l.initial.after l.initial.down) (six l.ahead l.number l.member l.target l.after l.down)
