-- The plans of rows that show an automaton list the successors, and count them. Assumes nothing.
use mathlib.Core.Path.{◌≡◌, refl, sym, subst}
use Prim.Native.Nat.{ℕ, ◌≤◌}
use lib.ListN.{length}
use Rattle.grammar.specs.Limits.{limits}
use Rattle.automaton.specs.Moves.{Moves, Regular}
use Rattle.moves.specs.Tables.{Tables}
use Rattle.moves.specs.Shows.{Shows}
use Rattle.plans.specs.Plan.{rows}
use Rattle.plans.specs.Clauses.{Planned}
use Rattle.plans.proofs.PlannedLaws.{lists}
use Rattle.plans.proofs.Counted.{total_is}

-- with the number of states by itself
pub planned-of : (M : Moves) (R : Regular M) (t m Q : ℕ) (size : Q ≡ M.states) (new : Tables) (X : Shows M t m new)
    (long : limits.max_states ≤ length new.targets)
    → Planned M (rows new.ahead new.number new.member new.first new.after) new.targets t m Q
planned-of M R t m Q size new X long =
    subst (λ (Q : ℕ). Planned M (rows new.ahead new.number new.member new.first new.after) new.targets t m Q) (sym size)
    (record { size = refl; lists = lists M R t m new X long; counts = total_is M R t m new X long })
