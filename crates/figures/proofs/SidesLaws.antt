-- The two sides of the shortest witness: each of its steps has one record, so the sides are determined; they are two strings of the
-- automaton that part, and have a letter for each step at most. Assumes nothing.
use Prim.Native.Nat.{ℕ, ◌+◌, ◌≤◌, ◌<◌}
use mathlib.Core.Path.{◌≡◌, refl, sym, ap, ap₂, subst, subst₂, subst₃, ◌∙◌}
use mathlib.Core.List.{List, [], ◌∷◌, ◌++◌, append-nil}
use native.Mathlib.Omega.{arith}
use lib.ListN.{length, length-append}
use Rattle.grammar.specs.Basics.{each, Mem, here}
use Rattle.automaton.specs.Automaton.{Automaton}
use Rattle.automaton.specs.Moves.{Moves, listed, Regular, Lists}
use Rattle.automaton.specs.Strings.{Letter, PartingStrings}
use Rattle.triples.specs.Index.{index, triple_count, layer_of, left_of, right_of}
use Rattle.triples.specs.Successor.{StepTo}
use Rattle.triples.specs.Records.{records}
use Rattle.triples.specs.Smallest.{successors, smallest}
use Rattle.triples.specs.Shortest.{shortest}
use Rattle.triples.specs.Sides.{letters, records_to, side_of, OneEach, left_side, right_side}
use Rattle.triples.specs.declared.Move.{Move}
use Rattle.triples.specs.declared.Move.TheVariants.{Opening, Closing, Symbol, Still}
use Rattle.triples.specs.declared.Step.{Step}
use Rattle.triples.proofs.Index.{right_of_lem, left-of, layer-of, index_injective}
use Rattle.triple_laws.proofs.CertificateCheck.{index-zero}
use Rattle.triple_laws.proofs.Records.{steps_in_range, records_exact, successors-below}
use Rattle.triple_laws.proofs.Numbered.{step_same}
use Rattle.parting.proofs.Parting.{Single, Chain, done, link, left_letters, right_letters, chain_parts}
use Rattle.figures.proofs.Shortest.{Leads, fewest_distinct}
use Rattle.figures.proofs.ShortestLaws.{goal, successors_ascend, some-triples, shortest-row, leads_to_lem, potential-shortest}
use Rattle.figures.proofs.OneRecord.{leads_to-index, one_each}

-- a move has one letter at most
pub letters-few : (m : Move) → length (letters m) ≤ 1
letters-few (Opening i) = omega arith
letters-few (Closing i) = omega arith
letters-few (Symbol x) = omega arith
letters-few Still = omega arith

module _ (M : Moves) (side : Step → Move) where
  -- the letter of a step with one record
  pub side-step : (i j : ℕ) (row : List ℕ) (s : Step) → records_to M i j ≡ s ∷ [] → side_of M side (i ∷ j ∷ row) ≡ letters (side s) ++ side_of M side (j ∷ row)
  unfolding side_of each
  side-step i j row s e =
      ap (λ (l : List Step). each l (λ s. letters (side s)) ++ side_of M side (j ∷ row)) e
      ∙ ap (λ (u : List Letter). u ++ side_of M side (j ∷ row)) (append-nil (letters (side s)))

  -- a letter for each step at most
  pub side-few : (i : ℕ) (row : List ℕ) → OneEach M (i ∷ row) → length (side_of M side (i ∷ row)) ≤ length row
  unfolding side_of
  side-few i [] o = omega arith
  side-few i (j ∷ row) o =
      let s = o.0.0 in
      omega (
        arith,
        ap length (side-step i j row s o.0.1),
        length-append (letters (side s)) (side_of M side (j ∷ row)),
        letters-few (side s),
        side-few j row o.1,
      )

module _ (M : Moves) (R : Regular M) where
  -- what is known of the shortest witness
  pub record ShortestSteps : Type 0 where
    pub rest : List ℕ
    pub row : shortest M ≡ 0 ∷ rest
    pub leads : Leads (successors M) (goal M) 0 rest
    pub one : OneEach M (shortest M)
    pub inside : (i : ℕ) → Mem i (shortest M) → i < triple_count M.states

  pub shortest_steps : Mem (index M.states 1 1 1) (smallest M) → ShortestSteps
  shortest_steps m =
      let l = leads_to_lem M R (index M.states 1 1 1) m in
      let s = shortest-row M R l.0 l.1 in
      let d = fewest_distinct (successors M) (goal M) (triple_count M.states) (successors_ascend M R) (successors-below M R) 0 (some-triples M R) s.0 s.2 in
      record {
        rest = s.0;
        row = s.1;
        leads = s.2.leads;
        one = subst (OneEach M) (sym s.1) (one_each M R (successors_ascend M R) s.0 s.2 (some-triples M R));
        inside = subst (λ (r : List ℕ). (i : ℕ) → Mem i r → i < triple_count M.states) (sym s.1) d.1;
      }

  -- each side has fewer letters than there are triples
  pub sides-few : Mem (index M.states 1 1 1) (smallest M) → (side : Step → Move) → length (side_of M side (shortest M)) < triple_count M.states
  sides-few m side =
      let k = shortest_steps m in
      omega (
        arith,
        (potential-shortest M R m).1,
        ap length k.row,
        ap (λ (r : List ℕ). length (side_of M side r)) k.row,
        side-few M side 0 k.rest (subst (OneEach M) k.row k.one),
      )

module _ (A : Automaton) (M : Moves) (R : Regular M) (N : Lists A M) where
  abbrev n : A.State → ℕ
  n = A.number

  -- a chain of steps that is a row's
  abbrev ChainOf : ℕ → A.State → A.State → List ℕ → Type 0
  ChainOf f p q row = (c : Chain A f p q) × (left_letters A c ≡ left_side M row) × (right_letters A c ≡ right_side M row)

  chain_end : (i f : ℕ) (p q : A.State) → f ≡ 1 → p ≡ A.last → q ≡ A.last → ChainOf f p q (i ∷ [])
  unfolding side_of
  chain_end i f p q a b c = subst₃ (λ (f : ℕ) (p q : A.State). ChainOf f p q (i ∷ [])) (sym a) (sym b) (sym c) (done, refl, refl)

  chain_of : (w : List ℕ) (i f : ℕ) (p q : A.State) → f < 2 → n p < M.states → n q < M.states → i ≡ index M.states f (n p) (n q)
      → Leads (successors M) (goal M) i w → OneEach M (i ∷ w) → ChainOf f p q (i ∷ w)
  chain_of [] i f p q hf hp hq e h o =
      let Q = M.states in
      let d = index_injective Q f (n p) (n q) 1 1 1 hp hq (omega (arith, R.four)) (omega (arith, R.four)) (sym e ∙ h) in
      let below : (r : A.State) → n r < M.states → n r < A.states = λ r h. omega (arith, N.states) in
      chain_end i f p q d.0 (N.one p A.last (below p hp) (d.1 ∙ sym N.last)) (N.one q A.last (below q hq) (d.2 ∙ sym N.last))
  chain_of (j ∷ w) i f p q hf hp hq e h o =
      let Q = M.states in
      let s = o.0.0 in
      let k = leads_to-index M R i j s (subst (λ (l : List Step). Mem s l) (sym o.0.1) here) in
      let m : Mem s (records M f (n p) (n q)) =
      subst₃ (λ (f p q : ℕ). Mem s (records M f p q)) (ap (layer_of Q) e ∙ layer-of Q f (n p) (n q) hp hq) (ap (left_of Q) e ∙ left-of Q f (n p) (n q) hp hq)
      (ap (right_of Q) e ∙ right_of_lem Q f (n p) (n q) hq) k.0 in
      let t = (records_exact M R f (n p) (n q) hf hp hq s).0 m in
      let r = steps_in_range M R hf hp hq (s.on_left, s.on_right, t) in
      let u = N.every s.left (omega (arith, r.1, N.states)) in
      let v = N.every s.right (omega (arith, r.2, N.states)) in
      let t' : StepTo (listed M) f (n p) (n q) s.layer (n u.0) (n v.0) s.on_left s.on_right
      = subst₂ (λ (a b : ℕ). StepTo (listed M) f (n p) (n q) s.layer a b s.on_left s.on_right) (sym u.1) (sym v.1) t in
      let step = (step_same A M R N {p = p} {q = q} {p' = u.0} {q' = v.0} (omega (arith, N.states)) (omega (arith, N.states))).1 t' in
      let z : j ≡ index Q s.layer (n u.0) (n v.0) = sym k.1 ∙ ap₂ (λ (a b : ℕ). index Q s.layer a b) (sym u.1) (sym v.1) in
      let c = chain_of w j s.layer u.0 v.0 r.0 (omega (arith, r.1, u.1)) (omega (arith, r.2, v.1)) z h.1 o.1 in (
        link step c.0,
        ap (λ (x : List Letter). letters s.on_left ++ x) c.1 ∙ sym (side-step M (λ s. s.on_left) i j w s o.0.1),
        ap (λ (x : List Letter). letters s.on_right ++ x) c.2 ∙ sym (side-step M (λ s. s.on_right) i j w s o.0.1),
      )

  -- the sides of the shortest witness are two strings that part
  pub sides-part : Single A → Mem (index M.states 1 1 1) (smallest M)
      → (s : PartingStrings A) × (s.x ++ s.z ≡ left_side M (shortest M)) × (s.y ++ s.w ≡ right_side M (shortest M))
  sides-part S m =
      let k = shortest_steps M R m in
      let z = N.first in
      let c = chain_of k.rest 0 0 A.first A.first (omega arith) (omega (arith, z, R.four)) (omega (arith, z, R.four))
      (sym (index-zero M.states) ∙ ap₂ (λ (a b : ℕ). index M.states 0 a b) (sym z) (sym z)) k.leads (subst (OneEach M) k.row k.one) in
      let s = chain_parts A S c.0 in
      (s.0, s.1 ∙ c.1 ∙ ap (left_side M) (sym k.row), s.2 ∙ c.2 ∙ ap (right_side M) (sym k.row))
