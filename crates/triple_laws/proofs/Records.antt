-- The step records of a triple are exactly its steps, and its listed successors are exactly its successors, which are in range.
-- A law in `↔` is a pair, `.0` from the list to the steps and `.1` back.
-- Assumes nothing.
use Prim.Native.Nat.{ℕ, ◌≤◌, ◌<◌}
use mathlib.Core.Path.{◌≡◌, sym, ap, subst, ◌∙◌}
use mathlib.Core.List.{map}
use mathlib.Core.Logic.{◌↔◌}
use native.Mathlib.Omega.{arith}
use lib.Dec.{ltb}
use borrow.Author.Tests.{lt-ltb}
use Rattle.grammar.specs.Basics.{Mem, when}
use Rattle.grammar.proofs.Answers.{both_and}
use Rattle.automaton.specs.Moves.{Moves, listed, Regular}
use Rattle.triples.specs.Index.{index, triple_count, layer_of, left_of, right_of}
use Rattle.triples.specs.Successor.{Successor, StepTo, open_left, open_right, shift_both, part-both, part_left}
use Rattle.triples.specs.Successor.{part_right}
use Rattle.triples.specs.Successor.{close-left, close-right, read-both}
use Rattle.triples.specs.Records.{step, next_index, choices, ordered, records}
use Rattle.triples.specs.Smallest.{successors}
use Rattle.triples.specs.declared.Move.{Move}
use Rattle.triples.specs.declared.Step.{Step}
use Rattle.triples.proofs.Index.{index_below, layer-of, left-of, right_of_lem, digits}
use Rattle.triple_laws.proofs.Members.{of_map}
use Rattle.triple_laws.proofs.Order.{of-ordered}
use Rattle.triple_laws.proofs.Choices.{choices_exact}

module _ (M : Moves) where
  -- in range the step records are the choices, in order
  pub records_are : (f p q : ℕ) → p < M.states → q < M.states
      → records M f p q ≡ ordered M (index M.states f p q) (choices M f p q)
  unfolding records
  records_are f p q hp hq =
      let e = both_and (ltb p M.states) (ltb q M.states) (lt-ltb p M.states hp) (lt-ltb q M.states hq) in
      ap (λ b. when b (ordered M (index M.states f p q) (choices M f p q))) e

  -- the successors of a triple's index are the next indices of its records
  pub successors_are : (f p q : ℕ) → p < M.states → q < M.states
      → successors M (index M.states f p q) ≡ map (next_index M) (records M f p q)
  unfolding successors
  successors_are f p q hp hq =
      let Q = M.states in
      let i = index Q f p q in
      ap (λ g. map (next_index M) (records M g (left_of Q i) (right_of Q i))) (layer-of Q f p q hp hq)
      ∙ ap (λ r. map (next_index M) (records M f r (right_of Q i))) (left-of Q f p q hp hq)
      ∙ ap (λ r. map (next_index M) (records M f p r)) (right_of_lem Q f p q hq)

module _ (M : Moves) (R : Regular M) where
  shifted : {x p q : ℕ} → (M.ahead p ≡ x) × (1 ≤ x) × (q ≡ M.after p) → q < M.states
  shifted {x} {p} {q} s = omega (arith, R.shifts-below p (omega (arith, s.0, s.1)), s.2)

  goes-in_range : {f p q g p' q' : ℕ} {l r : Move} → StepTo (listed M) f p q g p' q' l r → f < 2 → p < M.states → q < M.states
      → (g < 2) × (p' < M.states) × (q' < M.states)
  goes-in_range (open_left o) hf hp hq = (hf, R.opens-below _ _ _ o, hq)
  goes-in_range (open_right o) hf hp hq = (hf, hp, R.opens-below _ _ _ o)
  goes-in_range (shift_both u v) hf hp hq = (omega arith, shifted u, shifted v)
  goes-in_range (part-both n c d) hf hp hq = (omega arith, R.closes-below _ _ _ c, R.closes-below _ _ _ d)
  goes-in_range (part_left c b) hf hp hq = (omega arith, R.closes-below _ _ _ c, hq)
  goes-in_range (part_right c b) hf hp hq = (omega arith, hp, R.closes-below _ _ _ c)
  goes-in_range (close-left c) hf hp hq = (omega arith, R.closes-below _ _ _ c, hq)
  goes-in_range (close-right c) hf hp hq = (omega arith, hp, R.closes-below _ _ _ c)
  goes-in_range (read-both t u v) hf hp hq = (omega arith, shifted u, shifted v)

  -- the successors of a triple in range are in range
  pub steps_in_range : {f p q g p' q' : ℕ} → f < 2 → p < M.states → q < M.states → Successor (listed M) f p q g p' q'
      → (g < 2) × (p' < M.states) × (q' < M.states)
  steps_in_range hf hp hq s = goes-in_range s.2 hf hp hq

  -- the step records of a triple in range are exactly its steps
  pub records_exact : (f p q : ℕ) → f < 2 → p < M.states → q < M.states → (s : Step) → Mem s (records M f p q)
      ↔ StepTo (listed M) f p q s.layer s.left s.right s.on_left s.on_right
  records_exact f p q hf hp hq s =
      let e = records_are M f p q hp hq in
      let o = of-ordered M (index M.states f p q) s (choices M f p q) in
      let c = choices_exact M f p q hf s in
      (λ m. c.0 (o.0 (subst (Mem s) e m)), λ t. subst (Mem s) (sym e) (o.1 (c.1 t)))

  -- the listed successors of a triple in range are exactly the indices of its successors
  pub successors_exact : (f p q : ℕ) → f < 2 → p < M.states → q < M.states → (j : ℕ)
      → Mem j (successors M (index M.states f p q))
      ↔ ((g p' q' : ℕ) × (j ≡ index M.states g p' q') × Successor (listed M) f p q g p' q')
  successors_exact f p q hf hp hq j = (to, from)
    where
      to : Mem j (successors M (index M.states f p q))
          → (g p' q' : ℕ) × (j ≡ index M.states g p' q') × Successor (listed M) f p q g p' q'
      to m =
          let o = (of_map (records M f p q) (next_index M)).0 (subst (Mem j) (successors_are M f p q hp hq) m) in
          let s = o.0 in
          (s.layer, s.left, s.right, o.2, (s.on_left, s.on_right, (records_exact f p q hf hp hq s).0 o.1))

      from : ((g p' q' : ℕ) × (j ≡ index M.states g p' q') × Successor (listed M) f p q g p' q')
          → Mem j (successors M (index M.states f p q))
      from (g, p', q', e, (l, r, t)) =
          subst (Mem j) (sym (successors_are M f p q hp hq)) ((of_map (records M f p q) (next_index M)).1
          (step g p' q' l r, (records_exact f p q hf hp hq (step g p' q' l r)).1 t, e))

  -- the listed successors of an index in range are in range
  pub successors-below : (i j : ℕ) → i < triple_count M.states → Mem j (successors M i) → j < triple_count M.states
  successors-below i j h m =
      let Q = M.states in
      let d = digits Q i (omega (arith, R.four)) h in
      let o = (successors_exact (layer_of Q i) (left_of Q i) (right_of Q i) d.layer d.left d.right j).0
      (subst (λ i. Mem j (successors M i)) (sym d.whole) m) in
      let r = steps_in_range d.layer d.left d.right o.4 in
      subst (λ j. j < triple_count Q) (sym o.3) (index_below Q o.0 o.1 o.2 r.0 r.1 r.2)
