use Rattle.std.proofs.Common.{◌≡◌, map}
use Rattle.std.proofs.Math.Seq.{paste}
use Rattle.grammar.specs.Limits.{limits}
use Rattle.joining.specs.Naming.{recoded}
use Rattle.joining.proofs.rules.put_recoded.Given as goal

abbrev pub invariant-loop-i : goal.invariant-loop-i
invariant-loop-i l = l.row ≡ paste l.initial.row l.at (map (recoded limits l.terminals l.nonterminals) l.codes) l.i
