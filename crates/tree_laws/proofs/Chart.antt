-- A chart of counts up to 2, and what a stable one says of the forests. Assumes nothing.
use Prim.Native.Nat.{ℕ, zero, suc, ◌+◌, ◌-◌, ◌*◌, ◌≤◌, ◌<◌}
use mathlib.Core.Path.{◌≡◌, refl, sym, subst}
use mathlib.Core.List.{List}
use mathlib.Core.Logic.{inl, inr}
use native.Mathlib.Omega.{arith}
use native.Mathlib.Nat.{mul-le-mul, le_refl, eq-zero-or-pos}
use native.Mathlib.Decide.{ℕ_discrete}
use lib.ListN.{length}
use borrow.Author.Tests.{eq-eqb}
use Rattle.grammar.specs.Limits.{Limits}
use Rattle.grammar.specs.Grammar.{Terminal, Grammar, rule}
use Rattle.grammar.specs.Tree.{Trees, AppliesRuleOf}
use Rattle.tree_laws.specs.Spans.{Spans, end, leaf, node}
use Rattle.tree_laws.specs.Chart.{Places, Chart, splits, kin, Stable}
use Rattle.tree_laws.proofs.Spans.{spans_rise, spans_within}
use Rattle.tree_laws.proofs.Cap.{cap-one, cap-small}

-- one of the splits, and two of them, are at most the sum
one_split : (C : Chart) (b p i j m k : ℕ) → k < m → C.whole b i (i + k) * C.item p (i + k) j ≤ splits C b p i j m
unfolding splits
one_split C b p i j zero k h = absurd (omega arith)
one_split C b p i j (suc m) k h = elim (ℕ_discrete k m) [
  | yes e ↦ rw e (omega arith)
  | no n ↦ omega (arith, one_split C b p i j m k (omega arith))
]

two_splits : (C : Chart) (b p i j m k l : ℕ) → k < l → l < m
    → C.whole b i (i + k) * C.item p (i + k) j + C.whole b i (i + l) * C.item p (i + l) j ≤ splits C b p i j m
unfolding splits
two_splits C b p i j zero k l h g = absurd (omega arith)
two_splits C b p i j (suc m) k l h g = elim (ℕ_discrete l m) [
  | yes e ↦ rw e (omega (arith, one_split C b p i j m k (omega arith)))
  | no n ↦ omega (arith, two_splits C b p i j m k l h (omega arith))
]

-- the same, the splits named by their places
pub split_at_lem : (C : Chart) (b p i j k : ℕ) → i ≤ k → k ≤ j → C.whole b i k * C.item p k j ≤ splits C b p i j (suc (j - i))
split_at_lem C b p i j k h g =
    let q : i + (k - i) ≡ k = omega arith in
    subst (λ z. C.whole b i z * C.item p z j ≤ splits C b p i j (suc (j - i))) q (one_split C b p i j (suc (j - i)) (k - i) (omega arith))

split_two : (C : Chart) (b p i j k l : ℕ) → i ≤ k → k < l → l ≤ j
    → C.whole b i k * C.item p k j + C.whole b i l * C.item p l j ≤ splits C b p i j (suc (j - i))
split_two C b p i j k l h g m =
    let q : i + (k - i) ≡ k = omega arith in
    let o : i + (l - i) ≡ l = omega arith in
    subst (λ z. C.whole b i z * C.item p z j + C.whole b i l * C.item p l j ≤ splits C b p i j (suc (j - i))) q
    (subst (λ y. C.whole b i (i + (k - i)) * C.item p (i + (k - i)) j + C.whole b i y * C.item p y j ≤ splits C b p i j (suc (j - i))) o
    (two_splits C b p i j (suc (j - i)) (k - i) (l - i) (omega arith) (omega arith)))

same-split : (C : Chart) (b p i j k l : ℕ) → i ≤ k → k ≤ j → i ≤ l → l ≤ j → 1 * 1 ≤ C.whole b i k * C.item p k j → 1 * 1 ≤ C.whole b i l * C.item p l j
    → splits C b p i j (suc (j - i)) ≤ 1 → k ≡ l
same-split C b p i j k l h m h' m' x x' z = elim (ℕ_discrete k l) [
  | yes e ↦ e
  | no d ↦ elim (eq-zero-or-pos (k - l)) [
    | inl o ↦ absurd (omega (arith, split_two C b p i j k l h (omega arith) m'))
    | inr o ↦ absurd (omega (arith, split_two C b p i j l k h' (omega arith) m))
  ]
]

module _ (L : Limits) (G : Grammar) (w : List ℕ) (P : Places L G) (C : Chart) where
  -- one rule, and two of them, are at most the sum
  pub one-kin : (b i j m r : ℕ) → 1 ≤ r → r ≤ m → (rule L G r).left ≡ b → C.item (P.first r) i j ≤ kin L G P C b i j m
  unfolding kin
  one-kin b i j zero r l h e = absurd (omega arith)
  one-kin b i j (suc m) r l h e = elim (ℕ_discrete r (suc m)) [
    | yes q ↦ rw (← q, e, eq-eqb b b refl) (omega arith)
    | no n ↦ omega (arith, one-kin b i j m r l (omega arith) e)
  ]

  two_kin : (b i j m r s : ℕ) → 1 ≤ r → r < s → s ≤ m → (rule L G r).left ≡ b → (rule L G s).left ≡ b
      → C.item (P.first r) i j + C.item (P.first s) i j ≤ kin L G P C b i j m
  unfolding kin
  two_kin b i j zero r s l h g e d = absurd (omega arith)
  two_kin b i j (suc m) r s l h g e d = elim (ℕ_discrete s (suc m)) [
    | yes q ↦ rw (← q, d, eq-eqb b b refl) (omega (arith, one-kin b i j m r l (omega arith) e))
    | no n ↦ omega (arith, two_kin b i j m r s l h (omega arith) e d)
  ]

  module _ (S : Stable L G w P C) (apart : (b r : ℕ) → AppliesRuleOf L G b r → Terminal G.terminals b → ⊥) where
    pub some-whole : (b r i k : ℕ) → AppliesRuleOf L G b r → i ≤ k → k ≤ length w → 1 ≤ C.item (P.first r) i k → 1 ≤ C.whole b i k
    some-whole b r i k a h g x =
        omega (
          arith,
          S.at-whole b r i k a h g,
          cap-one (kin L G P C b i k (length G.rules))
              (omega (arith, one-kin b i k (length G.rules) r a.0.0 a.0.1 a.1)),
        )

    -- what derives is counted
    pub some : {α : List ℕ} {f : Trees} {i j : ℕ} → Spans L G w α f i j → (p : ℕ) → P.rest p ≡ α → 1 ≤ C.item p i j
    some (end {i} h) p e = S.at-end p i e h
    some (leaf {a} {α} {f} {i} {j} t h q s) p e =
        omega (arith, S.at_leaf p a i j α e t (omega (arith, spans_rise L G w s)) (spans_within L G w s) q, cap-one (C.item (suc p) (suc i) j) (some s (suc p) (P.on p a α e)))
    some (node {r} {b} {α} {f} {g} {i} {k} {j} a s u) p e =
        let h = spans_rise L G w s in
        let m = spans_rise L G w u in
        let x = some-whole b r i k a h (spans_within L G w s) (some s (P.first r) (P.begins r a.0)) in
        let y = some u (suc p) (P.on p b α e) in
        let z : 1 ≤ splits C b (suc p) i j (suc (j - i)) = omega (arith, mul-le-mul x y, split_at_lem C b (suc p) i j k h m) in
        omega (arith, S.at-node p b r i j α e a (omega arith) (spans_within L G w u), cap-one (splits C b (suc p) i j (suc (j - i))) z)

    same-rule : (b i k r r' : ℕ) → AppliesRuleOf L G b r → AppliesRuleOf L G b r' → 1 ≤ C.item (P.first r) i k → 1 ≤ C.item (P.first r') i k
        → kin L G P C b i k (length G.rules) ≤ 1 → r ≡ r'
    same-rule b i k r r' a a' x x' n = elim (ℕ_discrete r r') [
      | yes e ↦ e
      | no d ↦ elim (eq-zero-or-pos (r - r')) [
        | inl l ↦ absurd (omega (arith, two_kin b i k (length G.rules) r r' a.0.0 (omega arith) a'.0.1 a.1 a'.1))
        | inr l ↦ absurd (omega (arith, two_kin b i k (length G.rules) r' r a'.0.0 (omega arith) a.0.1 a'.1 a.1))
      ]
    ]

    unique_at : {α : List ℕ} {f g : Trees} {i j n : ℕ} → Spans L G w α f i j → Spans L G w α g i n → j ≡ n → (p : ℕ) → P.rest p ≡ α → C.item p i j ≤ 1 → f ≡ g
    unique_at (end h) (end h') l p e c = refl
    unique_at (leaf {a} {α} {f} {i} {j} t h q s) (leaf t' h' q' s') l p e c =
        unique_at s s' l (suc p) (P.on p a α e) (cap-small _ (omega (arith, S.at_leaf p a i j α e t (omega (arith, spans_rise L G w s)) (spans_within L G w s) q)))
    unique_at (leaf t h q s) (node a s' u') l p e c = absurd (apart _ _ a t)
    unique_at (node a s u) (leaf t h q s') l p e c = absurd (apart _ _ a t)
    unique_at (node {r} {b} {α} {f} {g} {i} {k} {j} a s u) (node {r = r'} {f = f'} {g = g'} {k = k'} a' s' v₀) l p e c =
        let u' : Spans L G w α g' k' j = subst (λ z. Spans L G w α g' k' z) (sym l) v₀ in
        let h = spans_rise L G w s in
        let m = spans_rise L G w u in
        let h' = spans_rise L G w s' in
        let m' = spans_rise L G w u' in
        let x = some-whole b r i k a h (spans_within L G w s) (some s (P.first r) (P.begins r a.0)) in
        let y = some u (suc p) (P.on p b α e) in
        let x' = some-whole b r' i k' a' h' (spans_within L G w s') (some s' (P.first r') (P.begins r' a'.0)) in
        let y' = some u' (suc p) (P.on p b α e) in
        let z : splits C b (suc p) i j (suc (j - i)) ≤ 1 =
        cap-small _ (omega (arith, S.at-node p b r i j α e a (omega arith) (spans_within L G w u))) in
        let q : k ≡ k' = same-split C b (suc p) i j k k' h m h' m' (mul-le-mul x y) (mul-le-mul x' y') z in
        let v : C.whole b i k ≤ 1 = omega (arith, z, split_at_lem C b (suc p) i j k h m, mul-le-mul (le_refl (C.whole b i k)) y) in
        let v' : C.item (suc p) k j ≤ 1 = omega (arith, z, split_at_lem C b (suc p) i j k h m, mul-le-mul x (le_refl (C.item (suc p) k j))) in
        let n : kin L G P C b i k (length G.rules) ≤ 1 = cap-small _ (omega (arith, S.at-whole b r i k a h (spans_within L G w s))) in
        let s₁ : Spans L G w (rule L G r').right f' i k = subst (λ z. Spans L G w (rule L G r').right f' i z) (sym q) s' in
        let u₁ : Spans L G w α g' k j = subst (λ z. Spans L G w α g' z j) (sym q) u' in
        let o : r ≡ r' = same-rule b i k r r' a a' (some s (P.first r) (P.begins r a.0)) (some s₁ (P.first r') (P.begins r' a'.0)) n in
        let s₂ : Spans L G w (rule L G r).right f' i k = subst (λ z. Spans L G w (rule L G z).right f' i k) (sym o) s₁ in
        let d : f ≡ f' = unique_at s s₂ refl (P.first r) (P.begins r a.0) (omega (arith, n, one-kin b i k (length G.rules) r a.0.0 a.0.1 a.1)) in
        let d' : g ≡ g' = unique_at u u₁ refl (suc p) (P.on p b α e) v' in
        cc (o, d, d')

    -- where 1 is counted at most, one forest derives at most
    pub unique : {α : List ℕ} {f g : Trees} {i j : ℕ} → Spans L G w α f i j → Spans L G w α g i j → (p : ℕ) → P.rest p ≡ α → C.item p i j ≤ 1 → f ≡ g
    unique s s' p e c = unique_at s s' refl p e c
