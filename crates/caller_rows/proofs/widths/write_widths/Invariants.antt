use Rattle.caller_rows.specs.Clauses.{Filled, width_at}
use Rattle.caller_rows.proofs.widths.write_widths.Given as goal

abbrev pub invariant-loop-i : goal.invariant-loop-i
invariant-loop-i l = Filled l.initial.widths l.widths l.i (width_at l.lefts l.live l.first)
