-- The choices of moves at what the automaton with m callers reaches: the list of them, and their number. Assumes nothing.
use Prim.Native.Nat.{ℕ}
use mathlib.Core.Path.{◌≡◌, sym, ◌∙◌}
use mathlib.Core.List.{List}
use mathlib.Core.Logic.{◌↔◌}
use lib.ListN.{length}
use Rattle.grammar.specs.Limits.{limits}
use Rattle.grammar.specs.Grammar.{Grammar}
use Rattle.automaton.specs.Moves.{listed, Regular, Lists}
use Rattle.automaton.specs.Callers.{callers}
use Rattle.automaton.specs.CallerMoves.{moves_with}
use Rattle.triples.specs.Looked.{looked_at}
use Rattle.triples.specs.Successor.{StepTo}
use Rattle.triples.specs.Numbers.{StepAt}
use Rattle.triple_laws.proofs.Members.{distinct_same}
use Rattle.triple_laws.proofs.Numbers.{step-numbers, reached-numbers}
use Rattle.figures.specs.Choice.{Choice}
use Rattle.figures.proofs.Choices.{InRange, reached_choices, choices_number, choices_distinct, reached-inside, choices_exact}
use Rattle.ambiguity.specs.Searches.{ListsChoices}

module _ (G : Grammar) (m : ℕ) (R : Regular (moves_with limits G m)) (N : Lists (callers limits G m) (moves_with limits G m)) where
  -- the step of a choice, by the numbers of its states and in the lists
  step_of : (c : Choice) → InRange (moves_with limits G m) R c.layer c.left c.right
      → StepAt (callers limits G m) c.layer c.left c.right c.step.layer c.step.left c.step.right c.step.on_left c.step.on_right
      ↔ StepTo (listed (moves_with limits G m)) c.layer c.left c.right c.step.layer c.step.left c.step.right c.step.on_left c.step.on_right
  step_of c h =
      step-numbers (callers limits G m) (moves_with limits G m) R N c.layer c.left c.right c.step.layer c.step.left c.step.right c.step.on_left c.step.on_right
      h.layer h.left h.right

  -- the list of them
  pub choices-listed : ListsChoices G m (reached_choices (moves_with limits G m) R)
  choices-listed =
      let M = moves_with limits G m in
      record {
        distinct = choices_distinct M R;
        choices = λ c. let e = choices_exact M R c in
            let a = reached-numbers (callers limits G m) M R N c.layer c.left c.right in (
              λ k. let (r, x) = e.0 k in (a.1 r, (step_of c (reached-inside M R r)).1 x),
              λ (r, x). let k = a.0 r in e.1 (k, (step_of c (reached-inside M R k)).0 x),
            );
      }

  -- the figure is the length of every such list
  pub choices-counted : (l : List Choice) → ListsChoices G m l → looked_at (moves_with limits G m) ≡ length l
  choices-counted l h =
      sym (choices_number (moves_with limits G m) R)
      ∙ distinct_same choices-listed.distinct h.distinct (λ c. (λ k. (h.choices c).1 ((choices-listed.choices c).0 k), λ k. (choices-listed.choices c).1 ((h.choices c).0 k)))
