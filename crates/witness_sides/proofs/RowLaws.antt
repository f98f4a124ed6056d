-- Rows that show an automaton can be searched, and give its records. Assumes nothing.
use Prim.Native.Nat.{ℕ}
use mathlib.Core.Path.{◌≡◌}
use native.Mathlib.Omega.{arith}
use lib.ListN.{length}
use Rattle.grammar.specs.Limits.{limits}
use Rattle.automaton.specs.Moves.{Moves, Regular}
use Rattle.moves.specs.Tables.{Tables}
use Rattle.moves.specs.Shows.{Shows}
use Rattle.steps.specs.Plan.{rows_of}
use Rattle.steps.proofs.Answers.{laid_in}
use Rattle.steps.proofs.Planned.{planned_is}
use Rattle.steps.proofs.Says.{shown-says}
use Rattle.witness_sides.specs.Clauses.{Searchable, GivesRecords}

module _ (M : Moves) (S : Regular M) (t m Q : ℕ) (size : Q ≡ M.states) (new : Tables) (X : Shows M t m new) where
  pub searchable-of : length new.targets ≡ limits.max_states → Searchable Q new.member new.first new.targets
  searchable-of long = record {
    least = omega (arith, size, S.four);
    most = omega (arith, size, X.few);
    laid = λ p h. laid_in M t m new X (omega (arith, long)) p (omega (arith, size, h));
    short = omega (arith, long);
  }

  pub gives_of : GivesRecords M (rows_of new.ahead new.number new.member new.first new.after new.targets t m) Q
  gives_of = record { size = size; same = λ f p q hp hq. planned_is M _ (shown-says M S t m new X) p q hp hq f }
