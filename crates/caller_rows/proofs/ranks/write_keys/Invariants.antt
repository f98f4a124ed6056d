use lib.ListN.{get_or}
use Rattle.caller_rows.specs.Clauses.{Filled, key_of}
use Rattle.caller_rows.proofs.ranks.write_keys.Given as goal

abbrev pub invariant-loop-p : goal.invariant-loop-p
invariant-loop-p l = Filled l.initial.keys l.keys l.p (λ p'. key_of l.n (get_or l.ahead p' 0))
