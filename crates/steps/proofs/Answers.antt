-- The answers from rows that show an automaton are the definition's. Assumes nothing.
use Prim.Native.Nat.{ℕ, ◌≤◌, ◌<◌}
use mathlib.Core.Path.{◌≡◌, sym, ap, ◌∙◌}
use mathlib.Core.List.{List}
use native.Mathlib.Omega.{arith}
use lib.ListN.{length, get_or}
use Rattle.grammar.specs.Limits.{limits}
use Rattle.automaton.specs.Moves.{Moves, Regular}
use Rattle.triples.specs.declared.Step.{Step}
use Rattle.triple_laws.proofs.Members.{place_mem}
use Rattle.moves.specs.Tables.{segment, Tables}
use Rattle.moves.specs.Shows.{Shows}
use Rattle.moves.proofs.Places.{ascends_mem}
use Rattle.steps.specs.declared.StepAnswer.TheVariants.{NoMore}
use Rattle.steps.specs.Steps.{nth, nth_record, record_answer}
use Rattle.steps.specs.Plan.{Laid, planned, rows_of}
use Rattle.steps.proofs.Says.{shown-says}
use Rattle.steps.proofs.Planned.{planned_is, none_left, none_right}
use Rattle.steps.proofs.Nth.{no_more}

module _ (M : Moves) where
  -- rows that show an automaton are laid out for each state
  pub laid_in : (t m : ℕ) (new : Tables) → Shows M t m new → limits.max_states ≤ length new.targets → (p : ℕ) → p < M.states
      → Laid new.member new.first new.targets p
  laid_in t m new X n p i = record {
    class = omega (arith, X.class p i, X.kinds);
    order = X.order p i;
    within = omega (arith, X.inside p i, X.few);
    low = λ j k.
        let m = place_mem (segment new.first new.targets (get_or new.member p 0)) j 0 k in
        omega (
          arith,
          (ascends_mem 0 M.states (segment new.first new.targets (get_or new.member p 0))
              (get_or (segment new.first new.targets (get_or new.member p 0)) j 0) (X.ascends p i) m).1,
          X.few,
        );
  }

  -- and give its records
  pub shown-nth : Regular M → (t m : ℕ) (new : Tables) → Shows M t m new → (f p q k : ℕ) → p < M.states → q < M.states
      → nth (planned (rows_of new.ahead new.number new.member new.first new.after new.targets t m) f p q) k ≡ nth_record M f p q k
  shown-nth R t m new X f p q k hp hq = ap (λ (l : List Step). nth l k) (planned_is M _ (shown-says M R t m new X) p q hp hq f)

  -- a state out of range
  pub beyond-left : (f p q k : ℕ) → M.states ≤ p → NoMore ≡ record_answer (nth_record M f p q k)
  beyond-left f p q k h = no_more k ∙ ap (λ (l : List Step). record_answer (nth l k)) (sym (none_left M f p q h))

  pub beyond-right : (f p q k : ℕ) → M.states ≤ q → NoMore ≡ record_answer (nth_record M f p q k)
  beyond-right f p q k h = no_more k ∙ ap (λ (l : List Step). record_answer (nth l k)) (sym (none_right M f p q h))
