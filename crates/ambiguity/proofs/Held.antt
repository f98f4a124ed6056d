-- The certificate of the smallest set, over any automaton and lists that are its moves: what it holds, and how many triples; and the
-- verdict by the end of the automaton. Assumes nothing.
use Prim.Native.Nat.{ℕ}
use mathlib.Core.Path.{◌≡◌, refl, sym, subst, subst₂, ◌∙◌}
use mathlib.Core.Bool.{Bool, true, false}
use mathlib.Core.List.{List}
use mathlib.Core.Logic.{◌↔◌}
use native.Mathlib.Omega.{arith}
use lib.ListN.{length}
use Rattle.grammar.specs.Basics.{choose, Mem}
use Rattle.automaton.specs.Automaton.{Automaton}
use Rattle.automaton.specs.Moves.{Moves, Regular, Lists}
use Rattle.automaton.specs.Strings.{Potential, Unambiguous}
use Rattle.triples.specs.Index.{index, triple_count, layer_of, left_of, right_of}
use Rattle.triples.specs.Successor.{Reached, Closed}
use Rattle.triples.specs.Numbers.{ReachedAt}
use Rattle.triples.specs.Smallest.{is_element, smallest, size}
use Rattle.triples.specs.Certificate.{Holds, SmallestCertificate, certificate_of}
use Rattle.triples.proofs.Index.{index_below, digits}
use Rattle.triples.proofs.Reached.{reached-held}
use Rattle.triple_laws.proofs.Explore.{is_element_lem, not_element}
use Rattle.triple_laws.proofs.CertificateCheck.{bits_fit}
use Rattle.triple_laws.proofs.CertificateOf.{certificate-bit}
use Rattle.triple_laws.proofs.Laws.{smallest_distinct, size_cardinal, smallest-below, reached-of, end-of, smallest-of}
use Rattle.triple_laws.proofs.Numbers.{reached-listed}
use Rattle.search.specs.Promise.{is_potential}
use Rattle.ambiguity.specs.Searches.{ListsHeld}

-- the certificate of the smallest set
unfoldable pub bytes_of : Moves → List ℕ
bytes_of M = certificate_of M.states (smallest M)

-- it holds only what the set has
held-listed : (M : Moves) (f p q : ℕ) → Holds M.states (bytes_of M) f p q → Mem (index M.states f p q) (smallest M)
unfolding bytes_of
held-listed M f p q h =
    go (is_element (index M.states f p q) (smallest M)) refl
    (sym (certificate-bit M.states (smallest M) (index M.states f p q)
    (omega (arith, index_below M.states f p q h.layer h.left h.right, bits_fit (triple_count M.states)))) ∙ h.set)
  where
    go : (b : Bool) → is_element (index M.states f p q) (smallest M) ≡ b → ◌≡◌ {A = ℕ} (choose b 1 0) 1 → Mem (index M.states f p q) (smallest M)
    go true e z = (is_element_lem (index M.states f p q) (smallest M)).0 e
    go false e z = absurd (let o : ⊥ = omega arith in o)

-- not potential: the set lacks the end
pub lacks : (M : Moves) → is_potential M ≡ false → Mem (index M.states 1 1 1) (smallest M) → ⊥
lacks M e = (not_element (index M.states 1 1 1) (smallest M)).0 e

module _ (A : Automaton) (M : Moves) (R : Regular M) (N : Lists A M) where
  -- by the verdict two strings part, or none do
  module _ (parts : Potential A ↔ Reached A 1 A.last A.last) where
    pub parting : is_potential M ≡ true → Potential A
    parting e = parts.1 ((end-of A M R N).1 ((is_element_lem (index M.states 1 1 1) (smallest M)).0 e))

    pub not_parting : is_potential M ≡ false → Unambiguous A
    not_parting e p = lacks M e ((end-of A M R N).0 (parts.0 p))

  -- where the set lacks the end its certificate is the smallest
  pub small : is_potential M ≡ false → SmallestCertificate A (bytes_of M)
  unfolding bytes_of
  small e = smallest-of A M R N (lacks M e)

  -- every closed set holds what it holds
  pub held_least : (C : ℕ → A.State → A.State → Type 0) → Closed A C → (f : ℕ) (s t : A.State) → Holds M.states (bytes_of M) f (A.number s) (A.number t) → C f s t
  held_least C k f s t h =
      reached-held A k ((reached-of A M R N {f = f} {p = s} {q = t} h.layer (omega (arith, h.left, N.states)) (omega (arith, h.right, N.states))).1
      (held-listed M f (A.number s) (A.number t) h))

  module _ (c : SmallestCertificate A (bytes_of M)) where
    -- it holds exactly what is reached
    pub held-reached : (f p q : ℕ) → Holds M.states (bytes_of M) f p q ↔ ReachedAt A f p q
    held-reached f p q = (
      λ h. (reached-listed A M R N f p q h.layer h.left h.right).1 (held-listed M f p q h),
      λ (s, t, a, b, r). subst (λ (Q : ℕ). Holds Q (bytes_of M) f p q) N.states
          (subst₂ (Holds A.states (bytes_of M) f) a b (reached-held A c.acceptable.acceptable.closed r)),
    )

    -- and its indices are those of the set
    held_indices : (i : ℕ) → ((f p q : ℕ) × (i ≡ index M.states f p q) × Holds M.states (bytes_of M) f p q) ↔ Mem i (smallest M)
    held_indices i = (to, from)
      where
        to : ((f p q : ℕ) × (i ≡ index M.states f p q) × Holds M.states (bytes_of M) f p q) → Mem i (smallest M)
        to (f, p, q, e, h) = subst (λ (i : ℕ). Mem i (smallest M)) (sym e) (held-listed M f p q h)

        from : Mem i (smallest M) → (f p q : ℕ) × (i ≡ index M.states f p q) × Holds M.states (bytes_of M) f p q
        from m =
            let Q = M.states in
            let d = digits Q i (omega (arith, R.four)) (smallest-below M R i m) in
            let r = (reached-listed A M R N (layer_of Q i) (left_of Q i) (right_of Q i) d.layer d.left d.right).1
            (subst (λ (i : ℕ). Mem i (smallest M)) (sym d.whole) m) in
            (layer_of Q i, left_of Q i, right_of Q i, sym d.whole, (held-reached (layer_of Q i) (left_of Q i) (right_of Q i)).1 r)

    -- the set lists what it holds, and every list that does is as long
    pub held_list : ListsHeld M.states (bytes_of M) (smallest M)
    held_list = record { distinct = smallest_distinct M R; indices = λ i. ((held_indices i).1, (held_indices i).0) }

    pub held_number : (l : List ℕ) → ListsHeld M.states (bytes_of M) l → length l ≡ size M
    held_number l d =
        size_cardinal M R l d.distinct (λ i. (λ m. (held_indices i).0 ((d.indices i).0 m), λ m. (d.indices i).1 ((held_indices i).1 m)))
