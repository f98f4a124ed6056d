-- The entries of a list between two bounds: exactly those, ascending if the list ascends. Assumes nothing.
use Prim.Native.Nat.{ℕ, ◌+◌, ◌≤◌, ◌<◌}
use mathlib.Core.Path.{◌≡◌, refl, sym, ◌∙◌}
use mathlib.Core.Bool.{Bool, true, false}
use mathlib.Core.List.{List, [], ◌∷◌, ◌++◌}
use mathlib.Core.Logic.{◌⊎◌, inl, inr, ◌↔◌}
use native.Mathlib.Omega.{arith}
use lib.Dec.{leb, ltb}
use borrow.Author.Tests.{leb-true, le-leb, ltb-true, lt-ltb}
use Rattle.grammar.specs.Basics.{Mem, here, there, when}
use Rattle.grammar.proofs.Answers.{no_bool, and_both, both_and}
use Rattle.triple_laws.proofs.Members.{no_element, first_or, element_as}
use Rattle.moves.specs.Tables.{Ascends}
use Rattle.steps.specs.Plan.{inside, between}

-- the first entry is kept if it is between the bounds, and else not
between_cases : (P : List ℕ → Type 0) (a b x : ℕ) (l : List ℕ) → (a ≤ x → x < b → P (x ∷ l)) → ((a ≤ x → x < b → ⊥) → P l)
    → P (when (inside a b x) (x ∷ []) ++ l)
between_cases P a b x l y n = go (inside a b x) refl
  where
    go : (c : Bool) → inside a b x ≡ c → P (when c (x ∷ []) ++ l)
    go true e =
        let h = and_both (leb a x) (ltb x b) e in
        y (leb-true a x h.0) (ltb-true x b h.1)
    go false e = n (λ h k. no_bool (sym (both_and (leb a x) (ltb x b) (le-leb a x h) (lt-ltb x b k)) ∙ e))

between-out : (a b : ℕ) (l : List ℕ) (u : ℕ) → Mem u (between a b l) → Mem u l × (a ≤ u) × (u < b)
unfolding between
between-out a b [] u m = absurd (no_element m)
between-out a b (x ∷ l) u m =
    let more : Mem u (between a b l) → Mem u (x ∷ l) × (a ≤ u) × (u < b) =
    λ m. let r = between-out a b l u m in (there r.0, r.1, r.2) in
    between_cases (λ k. Mem u k → Mem u (x ∷ l) × (a ≤ u) × (u < b)) a b x (between a b l)
    (λ h k m. elim (first_or m) [ inl e ↦ (element_as e here, omega arith, omega arith) | inr m ↦ more m ]) (λ n. more) m

between_in : (a b : ℕ) (l : List ℕ) (u : ℕ) → Mem u l → a ≤ u → u < b → Mem u (between a b l)
unfolding between
between_in a b [] u m h k = absurd (no_element m)
between_in a b (x ∷ l) u m h k = between_cases (Mem u) a b x (between a b l)
    (λ i j. elim (first_or m) [ inl e ↦ element_as e here | inr m ↦ there (between_in a b l u m h k) ])
    (λ n. elim (first_or m) [ inl e ↦ absurd (n (omega arith) (omega arith)) | inr m ↦ between_in a b l u m h k ])

-- the entries are exactly those between the bounds
pub of-between : (a b : ℕ) (l : List ℕ) (u : ℕ) → Mem u (between a b l) ↔ (Mem u l × (a ≤ u) × (u < b))
of-between a b l u = (between-out a b l u, λ h. between_in a b l u h.0 h.1 h.2)

-- they ascend, from either bound on and below either
pub between_ascends : (a b : ℕ) (l : List ℕ) (c d x y : ℕ) → Ascends x y l → (c ≤ x) ⊎ (c ≤ a) → (y ≤ d) ⊎ (b ≤ d) → Ascends c d (between a b l)
unfolding between
between_ascends a b [] c d x y s h k = tt
between_ascends a b (z ∷ l) c d x y s h k = between_cases (Ascends c d) a b z (between a b l)
    (λ i j. (least h i, most k j, between_ascends a b l (z + 1) d (z + 1) y s.2 (inl (omega arith)) k))
    (λ n. between_ascends a b l c d (z + 1) y s.2 (on h) k)
  where
    least : (c ≤ x) ⊎ (c ≤ a) → a ≤ z → c ≤ z
    least (inl h) i = omega (arith, s.0)
    least (inr h) i = omega arith

    most : (y ≤ d) ⊎ (b ≤ d) → z < b → z < d
    most (inl k) j = omega (arith, s.1)
    most (inr k) j = omega arith

    on : (c ≤ x) ⊎ (c ≤ a) → (c ≤ z + 1) ⊎ (c ≤ a)
    on (inl h) = inl (omega (arith, s.0))
    on (inr h) = inr h
