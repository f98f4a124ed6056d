-- What follows from the promise of the step records. Assumes nothing.
use Prim.Native.Nat.{ℕ, zero, suc, ◌+◌, ◌≤◌, ◌<◌}
use mathlib.Core.Path.{◌≡◌, refl, ap, sym, subst, ◌∙◌}
use mathlib.Core.Bool.{Bool, true, false, ◌&&◌}
use mathlib.Core.List.{List, [], ◌∷◌}
use mathlib.Core.Logic.{◌⊎◌, inl, inr, ◌↔◌}
use mathlib.Core.Option.{Option, none, some}
use native.Mathlib.Omega.{arith}
use native.Mathlib.Nat.{mul-le-mul}
use lib.Dec.{eqb, ltb}
use lib.ListN.{length}
use borrow.Author.Tests.{ltb-true, ltb-false, eq-eqb}
use Rattle.grammar.specs.Basics.{choose, Mem, here, there, Distinct, more, when}
use Rattle.grammar.specs.Limits.{limits}
use Rattle.grammar.specs.Grammar.{Grammar}
use Rattle.grammar.specs.Refusal.{done}
use Rattle.grammar.proofs.Answers.{then-goes, then_stops}
use Rattle.automaton.specs.Moves.{Moves, Regular}
use Rattle.automaton.specs.Callers.{callers, check_with}
use Rattle.automaton.specs.CallerMoves.{moves_with}
use Rattle.triples.specs.Index.{index, triple_count}
use Rattle.triples.specs.Records.{next_index, key, choices, ordered, records}
use Rattle.triples.specs.declared.Step.{Step}
use Rattle.triples.proofs.Index.{index_below}
use Rattle.triples.specs.Numbers.{StepAt}
use Rattle.triple_laws.proofs.Pairs.{Rising, pairs-none, pairs-more, pairs-join}
use Rattle.triple_laws.proofs.Records.{steps_in_range, records_exact}
use Rattle.triple_laws.proofs.RecordDoubles.{records_distinct}
use Rattle.triple_laws.proofs.Single.{records_rise}
use Rattle.triple_laws.proofs.Placed.{side, place, records-placed, side-small}
use Rattle.triple_laws.proofs.Numbers.{step-numbers}
use Rattle.steps.specs.Steps.{nth, nth_record, nth_step, record_answer, step_answer}
use Rattle.steps.specs.declared.StepAnswer.{StepAnswer}
use Rattle.steps.specs.declared.StepAnswer.TheVariants as step
use Rattle.ambiguity.specs.Entries.{Usize, StoresAt, states_at, StepAnswers}
use Rattle.ambiguity.specs.FrontPage.{StepTheorems}
use Rattle.ambiguity.proofs.Entries.{checked-at, stops, regular, lists}

-- what stands at a place of a list is in it, and what is in it stands at a place below its length
nth_in : (l : List Step) (k : ℕ) (x : Step) → nth l k ≡ some x → Mem x l
unfolding nth
nth_in [] k x e = let z : ◌≡◌ {A = ℕ} 0 1 = cc in absurd (let o : ⊥ = omega arith in o)
nth_in (y ∷ l) zero x e = let z : y ≡ x = cc in subst (λ y. Mem x (y ∷ l)) (sym z) here
nth_in (y ∷ l) (suc k) x e = there (nth_in l k x e)

in-nth : (l : List Step) (x : Step) → Mem x l → (k : ℕ) × (k < length l) × (nth l k ≡ some x)
unfolding nth
in-nth (y ∷ l) x here = (zero, omega arith, refl)
in-nth (y ∷ l) x (there m) = let r = in-nth l x m in (suc r.0, omega (arith, r.1), r.2)
in-nth [] x x3 = elim x3 [ ]

-- below the length each place has an element, from it on none has
nth-below : (l : List Step) (k : ℕ) → k < length l → (x : Step) × (nth l k ≡ some x)
unfolding nth
nth-below [] k h = absurd (omega arith)
nth-below (y ∷ l) zero h = (y, refl)
nth-below (y ∷ l) (suc k) h = nth-below l k (omega arith)

nth_past : (l : List Step) (k : ℕ) → length l ≤ k → nth l k ≡ none
unfolding nth
nth_past [] k h = refl
nth_past (y ∷ l) zero h = absurd (omega arith)
nth_past (y ∷ l) (suc k) h = nth_past l k (omega arith)

-- an element of a list without doubles stands at one place
nth_once : (l : List Step) → Distinct l → (k m : ℕ) (x : Step) → nth l k ≡ some x → nth l m ≡ some x → k ≡ m
unfolding nth
nth_once [] d k m x e w = let z : ◌≡◌ {A = ℕ} 0 1 = cc in absurd (let o : ⊥ = omega arith in o)
nth_once (y ∷ l) (more new d) zero zero x e w = refl
nth_once (y ∷ l) (more new d) zero (suc m) x e w =
    let z : y ≡ x = cc in absurd (new (subst (λ y. Mem y l) (sym z) (nth_in l m x w)))
nth_once (y ∷ l) (more new d) (suc k) zero x e w =
    let z : y ≡ x = cc in absurd (new (subst (λ y. Mem y l) (sym z) (nth_in l k x e)))
nth_once (y ∷ l) (more new d) (suc k) (suc m) x e w = ap suc (nth_once l d k m x e w)

answer-some : (o : Option Step) (x : Step) → record_answer o ≡ step.Record x → o ≡ some x
answer-some none x e = let z : ◌≡◌ {A = ℕ} 0 1 = cc in absurd (let o : ⊥ = omega arith in o)
answer-some (some y) x e = let z : y ≡ x = cc in ap some z

-- a list that rises from a to below b has at most b - a elements
few : {rank : Step → ℕ} (l : List Step) → Rising rank l → (a b : ℕ) → a ≤ b → ((x : Step) → Mem x l → a ≤ rank x)
    → ((x : Step) → Mem x l → rank x < b) → a + length l ≤ b
few [] pairs-none a b h low high = omega arith
few {rank = rank} (x ∷ l) (pairs-more up rise) a b h low high =
    let i = few l rise (suc (rank x)) b (high x here) up (λ y m. high y (there m)) in
    omega (arith, i, low x here)

-- the number by which records rise: of those that lead back the side, of the others the key and one
rank : ℕ → ℕ → ℕ
rank zero s = s
rank (suc a) s = suc (suc a)

rank_rises : (a b s u : ℕ) → s ≤ 1 → a < b → rank a s < rank b u
unfolding rank
rank_rises zero zero s u h k = absurd (omega arith)
rank_rises zero (suc b) s u h k = omega arith
rank_rises (suc a) zero s u h k = absurd (omega arith)
rank_rises (suc a) (suc b) s u h k = omega arith

rank_below : (a s n : ℕ) → s ≤ 1 → a ≤ n → rank a s < n + 2
unfolding rank
rank_below zero s n h k = omega arith
rank_below (suc a) s n h k = omega arith

choose-below : (b : Bool) (n : ℕ) → choose b 0 (suc n) ≤ suc n
choose-below true n = omega arith
choose-below false n = omega arith

module _ (M : Moves) where
  -- a triple is in range or not
  within : (f p q : ℕ) → ((f < 2) × (p < M.states) × (q < M.states)) ⊎ (¬ ((f < 2) × (p < M.states) × (q < M.states)))
  within f p q = go (ltb f 2) (ltb p M.states) (ltb q M.states) refl refl refl
    where
      go : (a b c : Bool) → ltb f 2 ≡ a → ltb p M.states ≡ b → ltb q M.states ≡ c
          → ((f < 2) × (p < M.states) × (q < M.states)) ⊎ (¬ ((f < 2) × (p < M.states) × (q < M.states)))
      go true true true x y z = inl (ltb-true f 2 x, ltb-true p M.states y, ltb-true q M.states z)
      go false b c x y z = inr (λ h. omega (arith, ltb-false f 2 x, h.0))
      go true false c x y z = inr (λ h. omega (arith, ltb-false p M.states y, h.1))
      go true true false x y z = inr (λ h. omega (arith, ltb-false q M.states z, h.2))

  -- out of range there are no records
  no_layer : (i f p q : ℕ) → ¬ (f < 2) → ordered M i (choices M f p q) ≡ []
  unfolding choices ordered
  no_layer i zero p q h = absurd (h (omega arith))
  no_layer i (suc zero) p q h = absurd (h (omega arith))
  no_layer i (suc (suc f)) p q h = refl

  none_outside : (f p q : ℕ) → ¬ ((f < 2) × (p < M.states) × (q < M.states)) → records M f p q ≡ []
  unfolding records
  none_outside f p q out = go (ltb p M.states) (ltb q M.states) refl refl
    where
      go : (b c : Bool) → ltb p M.states ≡ b → ltb q M.states ≡ c
          → when (b && c) (ordered M (index M.states f p q) (choices M f p q)) ≡ []
      go false c x y = refl
      go true false x y = refl
      go true true x y = no_layer (index M.states f p q) f p q (λ h. out (h, ltb-true p M.states x, ltb-true q M.states y))

  module _ (R : Regular M) where
    -- in range there are at most 2Q² + 2
    few-records : (f p q : ℕ) → f < 2 → p < M.states → q < M.states → length (records M f p q) ≤ triple_count M.states + 2
    unfolding rank
    few-records f p q hf hp hq =
        let z = few l rises 0 (triple_count M.states + 2) (omega arith) (λ s m. omega arith)
        (λ s m. rank_below (key M i s) (side s) (triple_count M.states) (side-small s.on_left) (key_below s m)) in
        omega (arith, z)
      where
        i : ℕ
        i = index M.states f p q

        l : List Step
        l = records M f p q

        back : (s : Step) → next_index M s ≡ i → key M i s ≡ 0
        back s e = ap (λ (b : Bool). choose {A = ℕ} b 0 (suc (next_index M s))) (eq-eqb (next_index M s) i e)

        rises : Rising (λ s. rank (key M i s) (side s)) l
        rises = pairs-join l (records_rise M R f p q hf hp hq) (records-placed M R f p q hf hp hq)
            (records_distinct M R f p q) (λ s t m n h k d. go s t h k)
          where
            go : (s t : Step) → (key M i s < key M i t) ⊎ ((next_index M s ≡ i) × (next_index M t ≡ i))
                → place M i s < place M i t → rank (key M i s) (side s) < rank (key M i t) (side t)
            go s t (inl h) k = rank_rises (key M i s) (key M i t) (side s) (side t) (side-small s.on_left) h
            go s t (inr (x, y)) k =
                omega (arith, k, back s x, back t y, ap (λ (a : ℕ). rank a (side s)) (back s x), ap (λ (a : ℕ). rank a (side t)) (back t y))

        key_below : (s : Step) → Mem s l → key M i s ≤ triple_count M.states
        key_below s m =
            let a = (records_exact M R f p q hf hp hq s).0 m in
            let u = steps_in_range M R hf hp hq (s.on_left, s.on_right, a) in
            let b = index_below M.states s.layer s.left s.right u.0 u.1 u.2 in
            omega (arith, b, choose-below (eqb (next_index M s) i) (next_index M s))

    -- so for every triple
    at_most : (f p q : ℕ) → length (records M f p q) ≤ triple_count M.states + 2
    at_most f p q = elim (within f p q) [
      | inl h ↦ few-records f p q h.0 h.1 h.2
      | inr h ↦ omega (arith, ap (length {A = Step}) (none_outside f p q h))
    ]

    -- and their places are those of a usize
    place-usize : M.states ≤ limits.max_states → (f p q k : ℕ) → k < length (records M f p q) → Usize k
    place-usize small f p q k h =
        let m = mul-le-mul {n₁ = M.states} {m₁ = M.states} {n₂ = limits.max_states} {m₂ = limits.max_states} small small in
        omega (arith, m, at_most f p q)

module _ (t n : ℕ) (table : List ℕ) (m f p q : ℕ) where
  module _ (G : Grammar) (s : StoresAt t n table m G) where
    -- the moves with m callers, which are regular
    abbrev M : Moves
    M = moves_with limits G m

    R : Regular M
    R = regular G s.stores.is_table.well_formed s.stores.sentence m

    -- the records of a triple in range are the steps of the automaton
    records_steps : f < 2 → p < states_at G m → q < states_at G m → (x : Step)
        → Mem x (records M f p q) ↔ StepAt (callers limits G m) f p q x.layer x.left x.right x.on_left x.on_right
    records_steps hf hp hq x =
        let r = records_exact M R f p q hf hp hq x in
        let z = step-numbers (callers limits G m) M R (lists G s.stores.is_table.well_formed s.stores.sentence m) f p q x.layer x.left x.right
        x.on_left x.on_right hf hp hq in
        (λ k. z.1 (r.0 k), λ y. r.1 (z.0 y))

    -- their places are those of a usize
    usize-at : (k : ℕ) → k < length (records M f p q) → Usize k
    usize-at k i = place-usize M R s.few-states f p q k i

  module _ (ask : ℕ → StepAnswer) (h : StepAnswers t n table m f p q ask) where
    -- the answer for a place, by the records
    record_at : (G : Grammar) → StoresAt t n table m G → (k : ℕ) → Usize k → ask k ≡ record_answer (nth_record (moves_with limits G m) f p q k)
    unfolding nth_step
    record_at G s k u =
        h k u
        ∙ ap step_answer (then-goes (check_with limits t n table m) (λ G. done (nth_record (moves_with limits G m) f p q k)) G (checked-at t n table m G s))

    pub step_theorems : StepTheorems t n table m f p q ask
    unfolding nth_step
    step_theorems = record {
      refused = λ cause at e k u. h k u
          ∙ ap step_answer (then_stops (check_with limits t n table m) (λ G. done (nth_record (moves_with limits G m) f p q k)) cause at (stops t n table m e));
      outside = λ G s out k u. let l = records (moves_with limits G m) f p q in
          record_at G s k u ∙ ap record_answer (nth_past l k (omega (arith, ap (length {A = Step}) (none_outside (moves_with limits G m) f p q out))));
      exact = λ G s hf hp hq x. let r = records_steps G s hf hp hq x in (
        λ (k, u, e). r.0 (nth_in (records (moves_with limits G m) f p q) k x (answer-some _ x (sym (record_at G s k u) ∙ e))),
        λ y. let z = in-nth (records (moves_with limits G m) f p q) x (r.1 y) in
            let u = usize-at G s z.0 z.1 in
            (z.0, u, record_at G s z.0 u ∙ ap record_answer z.2),
      );
      once = λ G s k l x u v e w. nth_once (records (moves_with limits G m) f p q) (records_distinct (moves_with limits G m) (R G s) f p q) k l x
          (answer-some _ x (sym (record_at G s k u) ∙ e)) (answer-some _ x (sym (record_at G s l v) ∙ w));
      count = λ G s. let l = records (moves_with limits G m) f p q in (
        length l,
        at_most (moves_with limits G m) (R G s) f p q,
        λ k j. let x = nth-below l k j in (x.0, record_at G s k (usize-at G s k j) ∙ ap record_answer x.1),
        λ k j u. record_at G s k u ∙ ap record_answer (nth_past l k j),
      );
    }
