use Rattle.std.proofs.Common.{◌≡◌, drop}
use Rattle.text.specs.Spelled.{spelled}
use Rattle.modules.specs.Joined.{meet}
use Rattle.joining.proofs.naming.meets.Given as goal

abbrev pub invariant-loop-i : goal.invariant-loop-i
invariant-loop-i l =
    meet (spelled l.addon l.firsts l.sizes) (spelled l.robot l.starts l.lengths) ≡ meet (drop l.i (spelled l.addon l.firsts l.sizes)) (spelled l.robot l.starts l.lengths)
