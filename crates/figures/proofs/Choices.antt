-- The choices of moves of the triples reached, each once: the search's figure is their number. Assumes nothing.
use Prim.Native.Nat.{ℕ, ◌<◌}
use mathlib.Core.Path.{◌≡◌, refl, ap, sym, subst, ◌∙◌}
use mathlib.Core.Logic.{◌↔◌}
use mathlib.Core.List.{List, [], ◌∷◌, map}
use native.Mathlib.Omega.{arith}
use lib.ListN.{length}
use Rattle.grammar.specs.Basics.{each, Mem, Distinct}
use Rattle.automaton.specs.Moves.{Moves, Regular, listed}
use Rattle.triples.specs.Index.{index, layer_of, left_of, right_of}
use Rattle.triples.specs.Successor.{StepTo, Reached}
use Rattle.triples.specs.Records.{records, next_index}
use Rattle.triples.specs.Smallest.{successors, smallest}
use Rattle.triples.specs.Looked.{total, looked_at}
use Rattle.triples.specs.declared.Step.{Step}
use Rattle.triples.proofs.Index.{digits, layer-of, left-of, right_of_lem}
use Rattle.triples.proofs.Reached.{reached-held}
use Rattle.triple_laws.proofs.Laws.{reached_exactly, smallest_distinct, smallest-below}
use Rattle.triple_laws.proofs.Members.{distinct_each, distinct_map, of-each, of_map}
use Rattle.triple_laws.proofs.Records.{records_exact, steps_in_range}
use Rattle.triple_laws.proofs.RecordDoubles.{records_distinct}
use Rattle.figures.specs.Choice.{Choice, choice}
use Rattle.figures.proofs.Sums.{each-length}

map-length : {A B : Type 0} (f : A → B) (l : List A) → length (map f l) ≡ length l
map-length f [] = refl
map-length f (a ∷ l) = omega (arith, map-length f l)

total_alike : (f g : ℕ → ℕ) → ((i : ℕ) → f i ≡ g i) → (l : List ℕ) → total f l ≡ total g l
unfolding total
total_alike f g h [] = refl
total_alike f g h (i ∷ l) = omega (arith, h i, total_alike f g h l)

module _ (M : Moves) (R : Regular M) where
  -- the choices of an index
  abbrev choices_at : ℕ → List Choice
  choices_at i = map (choice (layer_of M.states i) (left_of M.states i) (right_of M.states i)) (records M (layer_of M.states i) (left_of M.states i) (right_of M.states i))

  -- all choices
  pub reached_choices : List Choice
  reached_choices = each (smallest M) choices_at

  -- their number is the figure
  pub choices_number : length reached_choices ≡ looked_at M
  unfolding reached_choices looked_at successors
  choices_number =
      each-length (smallest M) choices_at
      ∙ total_alike (λ i. length (choices_at i)) (λ i. length (map (next_index M) (records M (layer_of M.states i) (left_of M.states i) (right_of M.states i))))
      (λ i. map-length _ (records M (layer_of M.states i) (left_of M.states i) (right_of M.states i)) ∙ sym (map-length (next_index M) (records M (layer_of M.states i) (left_of M.states i) (right_of M.states i)))) (smallest M)

  -- none stands twice
  pub choices_distinct : Distinct reached_choices
  unfolding reached_choices
  choices_distinct = distinct_each (smallest M) choices_at (smallest_distinct M R)
      (λ i m. distinct_map (records M (layer_of M.states i) (left_of M.states i) (right_of M.states i)) _ (records_distinct M R _ _ _) (λ a c e. ap (λ (c : Choice). c.step) e))
      (λ i j c mi mj hi hj.
      let a = (of_map (records M (layer_of M.states i) (left_of M.states i) (right_of M.states i)) _).0 hi in
      let b = (of_map (records M (layer_of M.states j) (left_of M.states j) (right_of M.states j)) _).0 hj in
      let e : choice (layer_of M.states i) (left_of M.states i) (right_of M.states i) a.0 ≡ choice (layer_of M.states j) (left_of M.states j) (right_of M.states j) b.0 = sym a.2 ∙ b.2 in
      let four = R.four in
      let x = digits M.states i (omega arith) (smallest-below M R i mi) in
      let y = digits M.states j (omega arith) (smallest-below M R j mj) in
      sym x.whole ∙ ap (λ (c : Choice). index M.states c.layer c.left c.right) e ∙ y.whole)

  -- what is reached is in range
  pub record InRange (f p q : ℕ) : Type 0 where
    pub layer : f < 2
    pub left : p < M.states
    pub right : q < M.states

  pub reached-inside : {f p q : ℕ} → Reached (listed M) f p q → InRange f p q
  reached-inside r =
      reached-held (listed M) {C = InRange} (record {
        holds = let four = R.four in record { layer = omega arith; left = omega arith; right = omega arith };
        step = λ h s. let i = steps_in_range M R h.layer h.left h.right s in record { layer = i.0; left = i.1; right = i.2 };
      }) r

  abbrev pub Chosen : Choice → Type 0
  Chosen c =
      Reached (listed M) c.layer c.left c.right
      × StepTo (listed M) c.layer c.left c.right c.step.layer c.step.left c.step.right c.step.on_left c.step.on_right

  chosen_at : (i : ℕ) → Mem i (smallest M) → (s : Step) → Mem s (records M (layer_of M.states i) (left_of M.states i) (right_of M.states i))
      → Chosen (choice (layer_of M.states i) (left_of M.states i) (right_of M.states i) s)
  chosen_at i m s k =
      let four = R.four in
      let x = digits M.states i (omega arith) (smallest-below M R i m) in (
        (reached_exactly M R _ _ _ x.layer x.left x.right).1 (subst (λ j. Mem j (smallest M)) (sym x.whole) m),
        (records_exact M R _ _ _ x.layer x.left x.right s).0 k,
      )

  listed_at : (c : Choice) → InRange c.layer c.left c.right → Mem c.step (records M c.layer c.left c.right)
      → Mem c (choices_at (index M.states c.layer c.left c.right))
  listed_at c h m =
      let j = index M.states c.layer c.left c.right in
      let f = layer-of M.states c.layer c.left c.right h.left h.right in
      let p = left-of M.states c.layer c.left c.right h.left h.right in
      let q = right_of_lem M.states c.layer c.left c.right h.right in
      subst (λ (t : ℕ × ℕ × ℕ). Mem c (map (choice t.0 t.1 t.2) (records M t.0 t.1 t.2))) (λ d. (sym f d, sym p d, sym q d))
      ((of_map (records M c.layer c.left c.right) (choice c.layer c.left c.right)).1 (c.step, m, refl))

  -- they are the steps of what is reached
  pub choices_exact : (c : Choice) → Mem c reached_choices ↔ Chosen c
  unfolding reached_choices
  choices_exact c = (
    λ m.
        let o = (of-each (smallest M) choices_at).0 m in
        let i = o.0 in
        let a = (of_map (records M (layer_of M.states i) (left_of M.states i) (right_of M.states i)) (choice (layer_of M.states i) (left_of M.states i) (right_of M.states i))).0 o.2 in
        subst Chosen (sym a.2) (chosen_at i o.1 a.0 a.1),
    λ (r, s).
        let h = reached-inside r in
        (of-each (smallest M) choices_at).1 (
          index M.states c.layer c.left c.right,
          (reached_exactly M R _ _ _ h.layer h.left h.right).0 r,
          listed_at c h ((records_exact M R _ _ _ h.layer h.left h.right c.step).1 s),
        ),
  )
