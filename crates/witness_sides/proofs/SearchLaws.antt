-- The search for the record that leads to an index. Assumes nothing.
use Prim.Native.Nat.{ℕ, zero, suc, ◌+◌, ◌≤◌}
use mathlib.Core.Path.{◌≡◌, refl, sym, ap, ◌∙◌}
use mathlib.Core.List.{List, [], ◌∷◌, ◌++◌}
use mathlib.Core.Bool.{Bool}
use mathlib.Core.Option.{Option, none, some}
use Rattle.std.specs.Prelude.{Some, None}
use native.Mathlib.Omega.{arith}
use native.Mathlib.Numerals.{add-one}
use lib.Dec.{eqb}
use lib.ListN.{length, drop, drop_of_length-le}
use lib.Seq.{drop-nil}
use borrow.Author.Tests.{eq-eqb, ne_eqb}
use Rattle.grammar.specs.Basics.{when, each}
use Rattle.triples.specs.Index.{index}
use Rattle.triples.specs.declared.Step.{Step}
use Rattle.steps.specs.declared.StepAnswer.{StepAnswer}
use Rattle.steps.specs.declared.StepAnswer.TheVariants.{Record, NoMore}
use Rattle.steps.specs.Steps.{nth, record_answer}
use Rattle.witness_sides.specs.Clauses.{steps_to, first_of}

-- the rest of a list from the record that was answered; no rest where none was
from_record : (l : List Step) (k : ℕ) (s : Step) → Record s ≡ record_answer (nth l k) → drop k l ≡ s ∷ drop (suc k) l
unfolding nth
from_record [] k s e = let z : ◌≡◌ {A = ℕ} 0 1 = cc in absurd (let o : ⊥ = omega arith in o)
from_record (t ∷ l) zero s e = let z : t ≡ s = cc in ap (λ (t : Step). t ∷ l) z
from_record (t ∷ l) (suc k) s e = from_record l k s e

no_rest : (l : List Step) (k : ℕ) → NoMore ≡ record_answer (nth l k) → drop k l ≡ []
unfolding nth
no_rest [] k e = drop-nil k
no_rest (t ∷ l) zero e = let z : ◌≡◌ {A = ℕ} 0 1 = cc in absurd (let o : ⊥ = omega arith in o)
no_rest (t ∷ l) (suc k) e = no_rest l k e

module _ (Q j : ℕ) (l : List Step) (k : ℕ) where
  -- a record that leads to j is the first; one that does not is passed over
  steps_at : (s : Step) → Record s ≡ record_answer (nth l k)
      → steps_to Q (drop k l) j ≡ when (eqb (index Q s.layer s.left s.right) j) (s ∷ []) ++ steps_to Q (drop (suc k) l) j
  unfolding steps_to each
  steps_at s e = ap (λ (r : List Step). steps_to Q r j) (from_record l k s e)

  pub leads_there : (s : Step) → Record s ≡ record_answer (nth l k) → index Q s.layer s.left s.right ≡ j → steps_to Q (drop k l) j ≡ steps_to Q l j
      → Some s ≡ first_of (steps_to Q l j)
  leads_there s e h inv =
      let n = index Q s.layer s.left s.right in
      ap (λ (b : Bool). first_of (when b (s ∷ []) ++ steps_to Q (drop (suc k) l) j)) (sym (eq-eqb n j h))
      ∙ ap first_of (sym (steps_at s e) ∙ inv)

  pub passed_over : (s : Step) → Record s ≡ record_answer (nth l k) → (index Q s.layer s.left s.right ≡ j → ⊥)
      → steps_to Q (drop k l) j ≡ steps_to Q l j → steps_to Q (drop (k + 1) l) j ≡ steps_to Q l j
  passed_over s e h inv =
      let n = index Q s.layer s.left s.right in
      ap (λ (k : ℕ). steps_to Q (drop k l) j) (add-one k)
      ∙ ap (λ (b : Bool). when b (s ∷ []) ++ steps_to Q (drop (suc k) l) j) (sym (ne_eqb n j h))
      ∙ sym (steps_at s e) ∙ inv

  -- past the last there is none
  nothing_left : drop k l ≡ [] → steps_to Q (drop k l) j ≡ steps_to Q l j → None ≡ first_of (steps_to Q l j)
  unfolding steps_to each
  nothing_left e inv = ap (λ (r : List Step). first_of (steps_to Q r j)) (sym e) ∙ ap first_of inv

  pub ends-none : (answer : StepAnswer) → ((s : Step) → answer ≡ Record s → ⊥) → answer ≡ record_answer (nth l k)
      → steps_to Q (drop k l) j ≡ steps_to Q l j → None ≡ first_of (steps_to Q l j)
  ends-none answer other e inv = go (nth l k) refl
    where
      go : (o : Option Step) → nth l k ≡ o → None ≡ first_of (steps_to Q l j)
      go none q = nothing_left (no_rest l k (sym (ap record_answer q))) inv
      go (some s) q = absurd (other s (e ∙ ap record_answer q))

  pub past-none : length l ≤ k → steps_to Q (drop k l) j ≡ steps_to Q l j → None ≡ first_of (steps_to Q l j)
  past-none h inv = nothing_left (drop_of_length-le l {i = k} h) inv
