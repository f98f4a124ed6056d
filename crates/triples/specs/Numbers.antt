-- Triples by the numbers of their states, as records, indices and bits have them, over any automaton. Source: document 01,
-- "Triples, certificate, witness". Assumes nothing.
use Rattle.std.specs.Prelude.{ℕ, ◌≡◌}
use Rattle.automaton.specs.Automaton.{Automaton}
use Rattle.triples.specs.Successor.{StepTo, Reached}
use Rattle.triples.specs.declared.Move.{Move}

module _ (A : Automaton) where
  -- there is a step between triples of states with these numbers
  abbrev pub StepAt : ℕ → ℕ → ℕ → ℕ → ℕ → ℕ → Move → Move → Type 0
  StepAt f p q g p' q' l r =
      (s t s' t' : A.State) × (A.number s ≡ p) × (A.number t ≡ q) × (A.number s' ≡ p') × (A.number t' ≡ q') × StepTo A f s t g s' t' l r

  -- a triple of states with these numbers is reached from (0, first, first)
  abbrev pub ReachedAt : ℕ → ℕ → ℕ → Type 0
  ReachedAt f p q = (s t : A.State) × (A.number s ≡ p) × (A.number t ≡ q) × Reached A f s t
