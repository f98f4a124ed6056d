use mathlib.Core.Path.{◌≡◌}
use lib.ListN.{drop}
use Rattle.steps.specs.Plan.{rows_of}
use Rattle.witness_sides.specs.Clauses.{steps_to, records_at}
use Rattle.witness_sides.proofs.leading.step_to.Given as goal

abbrev pub invariant-loop-k : goal.invariant-loop-k
invariant-loop-k l = let r = records_at (rows_of l.ahead l.number l.member l.first l.after l.targets l.t l.m) l.q l.i in
    steps_to l.q (drop l.k r) l.j ≡ steps_to l.q r l.j
