use mathlib.Core.Path.{◌≡◌}
use lib.ListN.{drop}
use Rattle.steps.specs.Plan.{between, pick_of}
use Rattle.steps.proofs.target.find_target.Given as goal

abbrev pub invariant-loop-u : goal.invariant-loop-u
invariant-loop-u l = pick_of (between l.from l.to (drop l.u-index l.row)) l.rest ≡ pick_of (between l.from l.to l.row) l.k
