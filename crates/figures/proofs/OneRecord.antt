-- Of neighbours of a row that comes before every other to the goal, the first has just one step record that leads to the second.
-- Assumes nothing.
use Prim.Native.Nat.{ℕ, ◌<◌}
use mathlib.Core.Path.{◌≡◌, sym, ap, subst, ◌∙◌}
use mathlib.Core.List.{List, [], ◌∷◌}
use native.Mathlib.Omega.{arith}
use lib.Dec.{eqb}
use borrow.Author.Tests.{eqb-true, eq-eqb}
use Rattle.grammar.specs.Basics.{when, each, Mem, here, there, Distinct, more}
use Rattle.automaton.specs.Moves.{Moves, Regular}
use Rattle.triples.specs.Index.{index, triple_count, layer_of, left_of, right_of}
use Rattle.triples.specs.Records.{next_index, records}
use Rattle.triples.specs.Smallest.{successors}
use Rattle.triples.specs.Sides.{records_to, OneEach}
use Rattle.triples.specs.declared.Step.{Step}
use Rattle.triples.proofs.Index.{Digits, digits}
use Rattle.triple_laws.proofs.Members.{no_element, only_one, of-each, of_map, under-test, distinct_one, distinct_when, distinct_each}
use Rattle.triple_laws.proofs.RecordDoubles.{records_distinct}
use Rattle.triple_laws.proofs.Single.{one_record}
use Rattle.triple_laws.proofs.Records.{successors-below}
use Rattle.figures.proofs.Shortest.{Leads, Ascend, Fewest, fewest_distinct}

-- a list without doubles in which all elements are equal, and there is one
one_element : {A : Type 0} (l : List A) → Distinct l → ((a b : A) → Mem a l → Mem b l → a ≡ b) → (a : A) → Mem a l → l ≡ a ∷ []
one_element [] d h a m = absurd (no_element m)
one_element {A} (b ∷ []) d h a m = ap (λ (c : A). c ∷ []) (h b a here m)
one_element {A} (b ∷ c ∷ l) (more n d) h a m = absurd (n (subst (λ (e : A). Mem e (c ∷ l)) (h c b (there here) here) here))

module _ (M : Moves) (R : Regular M) where
  -- what leads to j is a record of the triple, and its next index is j
  pub leads_to-index : (i j : ℕ) (s : Step) → Mem s (records_to M i j)
      → Mem s (records M (layer_of M.states i) (left_of M.states i) (right_of M.states i)) × (next_index M s ≡ j)
  unfolding records_to
  leads_to-index i j s k =
      let Q = M.states in
      let l = records M (layer_of Q i) (left_of Q i) (right_of Q i) in
      let e = (of-each l (λ s. when (eqb (next_index M s) j) (s ∷ []))).0 k in
      let u = (under-test (eqb (next_index M e.0) j) (e.0 ∷ [])).0 e.2 in
      let q = only_one u.1 in
      (subst (λ (x : Step). Mem x l) (sym q) e.1, ap (next_index M) q ∙ eqb-true (next_index M e.0) j u.0)

  -- a successor other than the triple itself has one record
  pub record_to : (i j : ℕ) → i < triple_count M.states → Mem j (successors M i) → ¬ (j ≡ i) → (s : Step) × (records_to M i j ≡ s ∷ []) × (next_index M s ≡ j)
  unfolding records_to successors
  record_to i j h m ne =
      let Q = M.states in
      let d = digits Q i (omega (arith, R.four)) h in
      let l = records M (layer_of Q i) (left_of Q i) (right_of Q i) in
      let o = (of_map l (next_index M)).0 m in
      let s = o.0 in
      let keep : Step → List Step = λ s. when (eqb (next_index M s) j) (s ∷ []) in
      let distinct : Distinct (each l keep) =
      distinct_each l keep (records_distinct M R (layer_of Q i) (left_of Q i) (right_of Q i)) (λ t k. distinct_when (eqb (next_index M t) j) (t ∷ []) (distinct_one t))
      (λ t u b x y p q.
      only_one' (next_index M t) b t (p) (next_index M u) u q) in (
        s,
        one_element (each l keep) distinct (λ t u a b. same i ne d t u (leads_to-index i j t a) (leads_to-index i j u b)) s
            ((of-each l keep).1 (s, o.1, (under-test (eqb (next_index M s) j) (s ∷ [])).1 (eq-eqb (next_index M s) j (sym o.2), here))),
        sym o.2,
      )
    where
      only_one' : (x : ℕ) (b t : Step) → Mem b (when (eqb x j) (t ∷ [])) → (y : ℕ) (u : Step) → Mem b (when (eqb y j) (u ∷ [])) → t ≡ u
      only_one' x b t p y u q = sym (only_one ((under-test (eqb x j) (t ∷ [])).0 p).1) ∙ only_one ((under-test (eqb y j) (u ∷ [])).0 q).1

      same : (i : ℕ) → ¬ (j ≡ i) → Digits M.states i → (t u : Step)
          → Mem t (records M (layer_of M.states i) (left_of M.states i) (right_of M.states i)) × (next_index M t ≡ j)
          → Mem u (records M (layer_of M.states i) (left_of M.states i) (right_of M.states i)) × (next_index M u ≡ j) → t ≡ u
      same i ne d t u a b =
          one_record M R (layer_of M.states i) (left_of M.states i) (right_of M.states i) d.layer d.left d.right t u a.0 b.0
          (a.1 ∙ sym b.1) (λ e. ne (sym a.1 ∙ e ∙ d.whole))

  each_step : (goal : ℕ) (w : List ℕ) (i : ℕ) → Leads (successors M) goal i w → Distinct (i ∷ w) → ((x : ℕ) → Mem x (i ∷ w) → x < triple_count M.states) → OneEach M (i ∷ w)
  each_step goal [] i h d b = tt
  each_step goal (j ∷ w) i h (more n d) b =
      ((let r = record_to i j (b i here) h.0 (λ e. n (subst (λ (x : ℕ). Mem x (j ∷ w)) e here)) in (r.0, r.1)), each_step goal w j h.1 d (λ x m. b x (there m)))

  -- so in the row that comes before every other
  pub one_each : (up : Ascend (successors M) (index M.states 1 1 1) (triple_count M.states)) (w : List ℕ)
      → Fewest (successors M) (index M.states 1 1 1) 0 w → 0 < triple_count M.states → OneEach M (0 ∷ w)
  one_each up w f some =
      let d = fewest_distinct (successors M) (index M.states 1 1 1) (triple_count M.states) up (successors-below M R) 0 some w f in
      each_step (index M.states 1 1 1) w 0 f.leads d.0 d.1
