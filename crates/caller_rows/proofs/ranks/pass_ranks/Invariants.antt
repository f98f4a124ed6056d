use lib.ListN.{get_or}
use Rattle.caller_rows.specs.Clauses.{Filled}
use Rattle.caller_rows.proofs.ranks.pass_ranks.Given as goal

abbrev pub invariant-loop-p : goal.invariant-loop-p
invariant-loop-p l = Filled l.initial.passed l.passed l.p (λ p'. get_or l.ranks (get_or l.down p' 0) 0)
