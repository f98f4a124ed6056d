use Rattle.table_check.proofs.EarlierLaws.{Behind}
use Rattle.table_check.proofs.earlier.repeats.Given as goal

abbrev pub invariant-loop-i : goal.invariant-loop-i
invariant-loop-i l = Behind l.table l.offsets l.lefts l.count l.at l.k l.i
