use Rattle.caller_rows.specs.Clauses.{RanksWritten}
use Rattle.caller_rows.proofs.ranks.write_ranks.Given as goal

abbrev pub invariant-loop-b : goal.invariant-loop-b
invariant-loop-b l = RanksWritten l.first l.callers l.b l.initial.ranks l.ranks
