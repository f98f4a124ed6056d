-- The shortest witness of regular lists of moves, and of an automaton whose moves these are: where there is a witness, `shortest` is
-- the one that comes before every other; it has 2Q² entries at most. Assumes nothing.
use Prim.Native.Nat.{ℕ, suc, ◌≤◌, ◌<◌}
use mathlib.Core.Path.{◌≡◌, refl, sym, ap, subst, ◌∙◌}
use mathlib.Core.Bool.{Bool, true, false}
use mathlib.Core.Logic.{◌⊎◌, inl, inr}
use mathlib.Core.List.{List, [], ◌∷◌, ◌++◌, map}
use mathlib.Core.Option.{Option}
use native.Mathlib.Omega.{arith}
use native.Mathlib.Nat.{mul-le-mul}
use lib.Dec.{eqb}
use lib.ListN.{length}
use borrow.Author.Tests.{eqb-true, eq-eqb, ne_eqb}
use Rattle.grammar.specs.Basics.{choose, Mem}
use Rattle.grammar.specs.Refusal.{done, witness_wrong}
use Rattle.grammar.proofs.Answers.{no_answer, unless_holds, unless_done}
use Rattle.automaton.specs.Automaton.{Automaton}
use Rattle.automaton.specs.Moves.{Moves, listed, Regular, Lists}
use Rattle.triples.specs.Index.{index, triple_count, layer_of, left_of, right_of}
use Rattle.triples.specs.Records.{next_index, key, records}
use Rattle.triples.specs.Smallest.{is_element, successors, smallest}
use Rattle.triples.specs.Witness.{Witness, check_on, check_row}
use Rattle.triples.specs.Shortest.{ComesBefore, ShortestWitness, in_front, row_or_none, shortest}
use Rattle.triples.specs.declared.Step.{Step}
use Rattle.triples.proofs.Index.{digits}
use Rattle.triple_laws.proofs.Explore.{is_element_lem, explore_least}
use Rattle.triple_laws.proofs.Members.{of_map, distinct_below}
use Rattle.triple_laws.proofs.Pairs.{Pairs, pairs-none, pairs-more, pairs-map}
use Rattle.triple_laws.proofs.Order.{records_ascend}
use Rattle.triple_laws.proofs.Records.{successors-below}
use Rattle.triple_laws.proofs.Laws.{witness_exactly}
use Rattle.triple_laws.proofs.Numbered.{witness_same}
use Rattle.triple_laws.proofs.CertificateCheck.{index-zero}
use Rattle.figures.proofs.Shortest.{Leads, Fewest, fewest_distinct, fewest-found, before-not, one-fewest}

pairs-image : {A B : Type 0} {R : B → B → Type 0} (f : A → B) (l : List A) → Pairs (λ a b. R (f a) (f b)) l → Pairs R (map f l)
pairs-image f [] pairs-none = pairs-none
pairs-image {A} {B} {R} f (a ∷ l) (pairs-more r p) =
    pairs-more (λ b m. let o = (of_map l f).0 m in subst (R (f a)) (sym o.2) (r o.0 o.1)) (pairs-image f l p)

module _ (M : Moves) where
  abbrev pub goal : ℕ
  goal = index M.states 1 1 1

  key_is : (i : ℕ) (s : Step) → ¬ (next_index M s ≡ i) → key M i s ≡ suc (next_index M s)
  key_is i s n = ap (λ (b : Bool). choose {A = ℕ} b 0 (suc (next_index M s))) (ne_eqb (next_index M s) i n)

  key-most : (i : ℕ) (s : Step) → key M i s ≤ suc (next_index M s)
  key-most i s = go (eqb (next_index M s) i)
    where
      go : (b : Bool) → choose {A = ℕ} b 0 (suc (next_index M s)) ≤ suc (next_index M s)
      go true = omega arith
      go false = omega arith

  -- successors of triples ascend, but for the triple itself
  pub successors_ascend : Regular M → (i : ℕ) → i < triple_count M.states → Pairs (λ a b. ¬ (a ≡ i) → a ≤ b) (successors M i)
  unfolding successors
  successors_ascend R i h =
      let Q = M.states in
      let d = digits Q i (omega (arith, R.four)) h in
      let l = records M (layer_of Q i) (left_of Q i) (right_of Q i) in
      pairs-image (next_index M) l
      (pairs-map (λ s t k n. omega (arith, key_is i s n, key-most i t))
      (subst (λ (j : ℕ). Pairs (λ s t. key M j s ≤ key M j t) l) d.whole (records_ascend M (layer_of Q i) (left_of Q i) (right_of Q i))))

  -- what is accepted after i leads on from there to the goal, and the other way round; a row is accepted exactly if it leads from 0
  on_leads : (w : List ℕ) (i place : ℕ) → check_on M i place w ≡ done tt → Leads (successors M) goal i w
  unfolding check_on
  on_leads [] i place e = eqb-true i goal (unless_done witness_wrong place (eqb i goal) (done tt) tt e).0
  on_leads (j ∷ w) i place e =
      let a = unless_done witness_wrong place (is_element j (successors M i)) (check_on M j (suc place) w) tt e in
      ((is_element_lem j (successors M i)).0 a.0, on_leads w j (suc place) a.1)

  leads_on : (w : List ℕ) (i place : ℕ) → Leads (successors M) goal i w → check_on M i place w ≡ done tt
  unfolding check_on
  leads_on [] i place h = unless_holds witness_wrong place _ (done tt) (eq-eqb i goal h)
  leads_on (j ∷ w) i place h =
      unless_holds witness_wrong place _ (check_on M j (suc place) w) ((is_element_lem j (successors M i)).1 h.0) ∙ leads_on w j (suc place) h.1

  pub accepted_leads : (row : List ℕ) → check_row M row ≡ done tt → (w : List ℕ) × (row ≡ 0 ∷ w) × Leads (successors M) goal 0 w
  unfolding check_row
  accepted_leads [] e = no_answer e
  accepted_leads (i ∷ w) e =
      let a = unless_done witness_wrong 0 (eqb i (index M.states 0 0 0)) (check_on M i 1 w) tt e in
      let z : i ≡ 0 = eqb-true i (index M.states 0 0 0) a.0 ∙ index-zero M.states in
      (w, ap (λ (x : ℕ). x ∷ w) z, subst (λ (x : ℕ). Leads (successors M) goal x w) z (on_leads w i 1 a.1))

  pub leads_accepted : (w : List ℕ) → Leads (successors M) goal 0 w → check_row M (0 ∷ w) ≡ done tt
  unfolding check_row
  leads_accepted w h =
      unless_holds witness_wrong 0 _ (check_on M 0 1 w) (eq-eqb 0 (index M.states 0 0 0) (sym (index-zero M.states))) ∙ leads_on w 0 1 h

module _ (M : Moves) (R : Regular M) where
  pub some-triples : 0 < triple_count M.states
  some-triples = omega (arith, mul-le-mul {n₁ = 1} {m₁ = 1} {n₂ = M.states} {m₂ = M.states} (omega (arith, R.four)) (omega (arith, R.four)))

  -- the row that leads on from 0 and comes before every other is that of `shortest`
  pub shortest-row : (v : List ℕ) → Leads (successors M) (goal M) 0 v → (w : List ℕ) × (shortest M ≡ 0 ∷ w) × Fewest (successors M) (goal M) 0 w
  unfolding shortest
  shortest-row v h =
      let f = fewest-found (successors M) (goal M) (triple_count M.states) (successors_ascend M R) (successors-below M R) 0 some-triples v h in
      (f.0, ap (λ (o : Option (List ℕ)). row_or_none (in_front 0 o)) f.1, f.2)

  -- what comes before every other row is `shortest`
  pub shortest-only : (v : List ℕ) → Fewest (successors M) (goal M) 0 v → shortest M ≡ 0 ∷ v
  shortest-only v f =
      let s = shortest-row v f.leads in
      s.1 ∙ ap (λ (u : List ℕ). 0 ∷ u) (one-fewest (successors M) (goal M) 0 s.0 v s.2 f)

  -- where there is a witness, `shortest` is the one that comes before every other
  pub shortest_witness : (row : List ℕ) → Witness (listed M) row → ShortestWitness (listed M) (shortest M)
  shortest_witness row w =
      let a = accepted_leads M row ((witness_exactly M R row).1 w) in
      let s = shortest-row a.0 a.2 in
      subst (ShortestWitness (listed M)) (sym s.1) (record {
        witness = (witness_exactly M R (0 ∷ s.0)).0 (leads_accepted M s.0 s.2.leads);
        least = λ other o. compare s.0 s.2 other (accepted_leads M other ((witness_exactly M R other).1 o));
      })
    where
      compare : (u : List ℕ) → Fewest (successors M) (goal M) 0 u → (other : List ℕ)
          → (v : List ℕ) × (other ≡ 0 ∷ v) × Leads (successors M) (goal M) 0 v → ((0 ∷ u) ≡ other) ⊎ ComesBefore (0 ∷ u) other
      compare u f other (v, e, h) =
          subst (λ (o : List ℕ). ((0 ∷ u) ≡ o) ⊎ ComesBefore (0 ∷ u) o) (sym e)
          (elim (f.least v h) [
            | inl q ↦ inl (ap (λ (w : List ℕ). 0 ∷ w) q)
            | inr (inl q) ↦ inr (inl (omega arith))
            | inr (inr q) ↦ inr (inr (ap suc q.0, inr (refl, q.1)))
          ])

-- and there is no other
pub one-shortest : (A : Automaton) (u v : List ℕ) → ShortestWitness A u → ShortestWitness A v → u ≡ v
one-shortest A u v x y = elim (x.least v y.witness) [
  | inl e ↦ e
  | inr b ↦ elim (y.least u x.witness) [
    | inl e ↦ sym e
    | inr c ↦ absurd (before-not u v b c)
  ]
]

-- a row with one more index at its end
leads_more : (successors : ℕ → List ℕ) (i j : ℕ) → Mem j (successors i) → (w : List ℕ) (k : ℕ) → Leads successors i k w → Leads successors j k (w ++ (j ∷ []))
leads_more successors i j m [] k h = (subst (λ (x : ℕ). Mem j (successors x)) (sym h) m, refl)
leads_more successors i j m (x ∷ w) k h = (h.0, leads_more successors i j m w x h.1)

module _ (M : Moves) (R : Regular M) where
  -- what the smallest set holds is reached by a row
  pub leads_to_lem : (i : ℕ) → Mem i (smallest M) → (w : List ℕ) × Leads (successors M) i 0 w
  unfolding smallest
  leads_to_lem = explore_least (successors M) (triple_count M.states) (some-triples M R) (successors-below M R)
      (λ i. (w : List ℕ) × Leads (successors M) i 0 w) ([], refl) (λ i j h m. (h.0 ++ (j ∷ []), leads_more (successors M) i j m h.0 0 h.1))

  -- where the verdict is potential, `shortest` is the witness that comes before every other, and its entries are 2Q² at most
  pub potential-shortest : Mem (index M.states 1 1 1) (smallest M) → ShortestWitness (listed M) (shortest M) × (length (shortest M) ≤ triple_count M.states)
  potential-shortest m =
      let l = leads_to_lem (index M.states 1 1 1) m in
      let w = shortest_witness M R (0 ∷ l.0) ((witness_exactly M R (0 ∷ l.0)).0 (leads_accepted M l.0 l.1)) in
      let s = shortest-row M R l.0 l.1 in
      let d = fewest_distinct (successors M) (goal M) (triple_count M.states) (successors_ascend M R) (successors-below M R) 0 (some-triples M R) s.0 s.2 in
      (w, subst (λ (r : List ℕ). length r ≤ triple_count M.states) (sym s.1) (distinct_below (triple_count M.states) (0 ∷ s.0) d.0 d.1))

module _ (A : Automaton) (M : Moves) (R : Regular M) (N : Lists A M) where
  -- the same for the automaton
  pub shortest-of : Mem (index M.states 1 1 1) (smallest M) → ShortestWitness A (shortest M) × (length (shortest M) ≤ triple_count M.states)
  shortest-of m =
      let s = potential-shortest M R m in (
        record {
          witness = (witness_same A M R N (shortest M)).1 s.0.witness;
          least = λ other o. s.0.least other ((witness_same A M R N other).0 o);
        },
        s.1,
      )
