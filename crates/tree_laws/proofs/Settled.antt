-- Settled places: the count is no less than what the others make of it. What is made of a count depends on its span alone, and is 0
-- where nothing is counted past the dot. Where all places are settled the chart is stable. Assumes nothing.
use Prim.Native.Nat.{ℕ, zero, suc, ◌+◌, ◌-◌, ◌*◌, ◌≤◌, ◌<◌}
use mathlib.Core.Path.{◌≡◌, refl, ap, ap₂, subst, ◌∙◌}
use mathlib.Core.Bool.{Bool, true, false, ◌&&◌}
use mathlib.Core.List.{List, [], ◌∷◌}
use native.Mathlib.Omega.{arith}
use native.Mathlib.Nat.{mul-zero}
use lib.Dec.{eqb, ltb, leb}
use lib.ListN.{length, get_or}
use borrow.Author.Tests.{le-leb, lt-leb, lt-ltb, ltb-true, eq-eqb}
use Rattle.grammar.specs.Basics.{choose}
use Rattle.grammar.specs.Limits.{Limits}
use Rattle.grammar.specs.Grammar.{Terminal, Grammar, start}
use Rattle.grammar.specs.Tree.{AppliesRuleOf}
use Rattle.grammar.proofs.Answers.{and_both}
use Rattle.tree_laws.specs.Chart.{cap, Places, Chart, splits, Stable, Sums, made, Settled}

splits-same : (C D : Chart) (x q k l n : ℕ) → k + n ≤ suc l → ((h : ℕ) → k ≤ h → h ≤ l → D.item q h l ≡ C.item q h l)
    → ((h : ℕ) → k ≤ h → h ≤ l → D.whole x k h ≡ C.whole x k h) → splits D x q k l n ≡ splits C x q k l n
unfolding splits
splits-same C D x q k l zero g a b = refl
splits-same C D x q k l (suc n) g a b =
    ap₂ (λ u v. u + v) (splits-same C D x q k l n (omega arith) a b) (ap₂ (λ u v. u * v) (b (k + n) (omega arith) (omega arith)) (a (k + n) (omega arith) (omega arith)))

module _ (L : Limits) (G : Grammar) (w : List ℕ) where
  -- what is made of a count depends on the counts within the span alone
  pub made-same : (C D : Chart) (x p k l : ℕ) → k ≤ l → ((h : ℕ) → k ≤ h → h ≤ l → D.item (suc p) h l ≡ C.item (suc p) h l)
      → ((h : ℕ) → k ≤ h → h ≤ l → D.whole x k h ≡ C.whole x k h) → made L G w D x p k l ≡ made L G w C x p k l
  unfolding made
  made-same C D x p k l g a b = go (leb (start L) x) (ltb k l && eqb (get_or w k 0) x) refl
    where
      go : (t u : Bool) → (ltb k l && eqb (get_or w k 0) x) ≡ u
          → choose t (splits D x (suc p) k l (suc (l - k))) (choose u (D.item (suc p) (suc k) l) 0) ≡ choose t (splits C x (suc p) k l (suc (l - k))) (choose u (C.item (suc p) (suc k) l) 0)
      go true u e = splits-same C D x (suc p) k l (suc (l - k)) (omega arith) a b
      go false true e = let h = ltb-true k l (and_both (ltb k l) (eqb (get_or w k 0) x) e).0 in a (suc k) (omega arith) (omega arith)
      go false false e = refl

  none-splits : (C : Chart) (x q i j n : ℕ) → ((k : ℕ) → C.item q k j ≡ 0) → splits C x q i j n ≡ 0
  unfolding splits
  none-splits C x q i j zero z = refl
  none-splits C x q i j (suc n) z =
      let e : C.whole x i (i + n) * C.item q (i + n) j ≡ 0 = ap (λ k. C.whole x i (i + n) * k) (z (i + n)) ∙ mul-zero (C.whole x i (i + n)) in
      omega (arith, none-splits C x q i j n z)

  pub none_made : (C : Chart) (x p i j : ℕ) → ((k : ℕ) → C.item (suc p) k j ≡ 0) → made L G w C x p i j ≡ 0
  unfolding made
  none_made C x p i j z = go (leb (start L) x) (ltb i j && eqb (get_or w i 0) x)
    where
      go : (t u : Bool) → choose t (splits C x (suc p) i j (suc (j - i))) (choose u (C.item (suc p) (suc i) j) 0) ≡ 0
      go true u = none-splits C x (suc p) i j (suc (j - i)) z
      go false true = z (suc i)
      go false false = refl

  module _ (P : Places L G) (low : (a : ℕ) → Terminal G.terminals a → a < start L) (high : (b r : ℕ) → AppliesRuleOf L G b r → start L ≤ b) where
    -- all settled, ends counted once, sums as they are: stable
    pub settled_stable : (C : Chart) → Sums L G w P C → ((p i : ℕ) → P.rest p ≡ [] → i ≤ length w → 1 ≤ C.item p i i)
        → ((p x i j : ℕ) (α : List ℕ) → P.rest p ≡ x ∷ α → i ≤ j → j ≤ length w → Settled L G w C x p i j) → Stable L G w P C
    unfolding made
    settled_stable C s e t = record {
      at-end = e;
      at_leaf = λ p a i j α q k h g f.
          subst (λ z. cap z ≤ C.item p i j) (leaf-made p a i j k h f) (t p a i j α q (omega arith) g);
      at-node = λ p b r i j α q k h g.
          subst (λ z. cap z ≤ C.item p i j) (node_made p b i j (high b r k)) (t p b i j α q h g);
      at-whole = λ b r i j k h g. let z = s b i j h g in omega arith;
    }
      where
        leaf-made : (p a i j : ℕ) → Terminal G.terminals a → i < j → get_or w i 0 ≡ a → made L G w C a p i j ≡ C.item (suc p) (suc i) j
        leaf-made p a i j k h f = rw (lt-leb (start L) a (low a k), lt-ltb i j h, eq-eqb (get_or w i 0) a f) refl

        node_made : (p b i j : ℕ) → start L ≤ b → made L G w C b p i j ≡ splits C b (suc p) i j (suc (j - i))
        node_made p b i j h = rw (le-leb (start L) b h) refl
