use Rattle.std.proofs.Common.{◌≡◌, true, drop}
use Rattle.text.specs.Names.{same_name}
use Rattle.names.proofs.same_name.Given as goal

abbrev pub invariant-loop-i : goal.invariant-loop-i
invariant-loop-i l = same_name (drop l.i l.a) (drop l.i l.b) ≡ true
