-- One count of a chart is raised: which counts change, that none becomes too large, and by how much the sums over rules rise.
-- Assumes nothing.
use Prim.Native.Nat.{ℕ, zero, suc, ◌+◌, ◌-◌, ◌≤◌, ◌<◌}
use mathlib.Core.Path.{◌≡◌, refl, sym, subst}
use mathlib.Core.List.{List, ◌∷◌}
use native.Mathlib.Omega.{arith}
use native.Mathlib.Decide.{ℕ_discrete}
use lib.Dec.{eqb}
use lib.ListN.{length, get_or}
use borrow.Author.Tests.{eq-eqb, ne_eqb}
use Rattle.grammar.specs.Basics.{choose}
use Rattle.grammar.specs.Limits.{Limits}
use Rattle.grammar.specs.Grammar.{Terminal, Grammar, rule}
use Rattle.grammar.specs.Tree.{AppliesRuleOf}
use Rattle.tree_laws.specs.Spans.{AtLeast, Spans, leaf}
use Rattle.tree_laws.specs.Chart.{cap, Places, Chart, splits, kin, SoundTo, Sums}
use Rattle.tree_laws.specs.Filling.{item_raised, whole_raised}
use Rattle.tree_laws.proofs.AtLeast.{least_le, least_keep, least_in}
use Rattle.tree_laws.proofs.Cap.{cap_le}
use Rattle.tree_laws.proofs.Sound.{RootTo, kin-counts, node_counts}

-- a cell is the one that was raised, or has its old count
pub raised_cases : (C : Chart) (p i j v q k l : ℕ) (X : ℕ → Type 0) → ((q ≡ p) → (k ≡ i) → (l ≡ j) → X v) → X (C.item q k l) → X ((item_raised C p i j v).item q k l)
unfolding item_raised
raised_cases C p i j v q k l X same other = elim (ℕ_discrete q p) [
  | no n ↦ rw (ne_eqb q p n) other
  | yes e ↦ elim (ℕ_discrete k i) [
    | no n ↦ rw (eq-eqb q p e, ne_eqb k i n) other
    | yes f ↦ elim (ℕ_discrete l j) [
      | no n ↦ rw (eq-eqb q p e, eq-eqb k i f, ne_eqb l j n) other
      | yes g ↦ rw (eq-eqb q p e, eq-eqb k i f, eq-eqb l j g) (same e f g)
    ]
  ]
]

pub raised_same : (C : Chart) (p i j v : ℕ) → (item_raised C p i j v).item p i j ≡ v
unfolding item_raised
raised_same C p i j v = rw (eq-eqb p p refl, eq-eqb i i refl, eq-eqb j j refl) refl

pub raised_other : (C : Chart) (p i j v q k l : ℕ) → ((q ≡ p) → (k ≡ i) → (l ≡ j) → ⊥) → (item_raised C p i j v).item q k l ≡ C.item q k l
raised_other C p i j v q k l n = raised_cases C p i j v q k l (λ z. z ≡ C.item q k l) (λ e f g. absurd (n e f g)) refl

-- the same for a nonterminal's count
pub risen_cases : (C : Chart) (b i j v a k l : ℕ) (X : ℕ → Type 0) → ((a ≡ b) → (k ≡ i) → (l ≡ j) → X v) → X (C.whole a k l) → X ((whole_raised C b i j v).whole a k l)
unfolding whole_raised
risen_cases C b i j v a k l X same other = elim (ℕ_discrete a b) [
  | no n ↦ rw (ne_eqb a b n) other
  | yes e ↦ elim (ℕ_discrete k i) [
    | no n ↦ rw (eq-eqb a b e, ne_eqb k i n) other
    | yes f ↦ elim (ℕ_discrete l j) [
      | no n ↦ rw (eq-eqb a b e, eq-eqb k i f, ne_eqb l j n) other
      | yes g ↦ rw (eq-eqb a b e, eq-eqb k i f, eq-eqb l j g) (same e f g)
    ]
  ]
]

pub risen-same : (C : Chart) (b i j v : ℕ) → (whole_raised C b i j v).whole b i j ≡ v
unfolding whole_raised
risen-same C b i j v = rw (eq-eqb b b refl, eq-eqb i i refl, eq-eqb j j refl) refl

pub risen-other : (C : Chart) (b i j v a k l : ℕ) → ((a ≡ b) → (k ≡ i) → (l ≡ j) → ⊥) → (whole_raised C b i j v).whole a k l ≡ C.whole a k l
risen-other C b i j v a k l n = risen_cases C b i j v a k l (λ z. z ≡ C.whole a k l) (λ e f g. absurd (n e f g)) refl

pub risen_item : (C : Chart) (b i j v p k l : ℕ) → (whole_raised C b i j v).item p k l ≡ C.item p k l
unfolding whole_raised
risen_item C b i j v p k l = refl

pub raised_whole : (C : Chart) (p i j v b k l : ℕ) → (item_raised C p i j v).whole b k l ≡ C.whole b k l
unfolding item_raised
raised_whole C p i j v b k l = refl

module _ (L : Limits) (G : Grammar) (w : List ℕ) (P : Places L G) where
  pub whole_sound : (d : ℕ) (C : Chart) → SoundTo L G w P d C → Sums L G w P C → (b i j : ℕ) → i ≤ j → j ≤ length w
      → AtLeast (suc d) (C.whole b i j) (RootTo L G w b i j (length G.rules))
  whole_sound d C s t b i j h g =
      subst (λ z. AtLeast (suc d) z (RootTo L G w b i j (length G.rules))) (sym (t b i j h g))
      (least_le (suc d) (suc d) (cap (kin L G P C b i j (length G.rules))) (kin L G P C b i j (length G.rules)) (cap_le _) (omega arith)
      (kin-counts L G w P C d b i j (length G.rules) (omega arith)
      (λ r q. subst (λ α. AtLeast d (C.item (P.first r) i j) (λ f. Spans L G w α f i j)) (P.begins r q) (s (P.first r) i j h g))))

  -- what the others make of a count before a nonterminal, and before a terminal, is not too large
  pub node_sound : (d : ℕ) (C : Chart) → ((b r : ℕ) → AppliesRuleOf L G b r → Terminal G.terminals b → ⊥) → SoundTo L G w P d C → Sums L G w P C
      → (p b i j : ℕ) (α : List ℕ) → P.rest p ≡ b ∷ α → i ≤ j → j ≤ length w
      → AtLeast (suc d) (cap (splits C b (suc p) i j (suc (j - i)))) (λ f. Spans L G w (P.rest p) f i j)
  node_sound d C apart s t p b i j α e h g =
      subst (λ β. AtLeast (suc d) (cap (splits C b (suc p) i j (suc (j - i)))) (λ f. Spans L G w β f i j)) (sym e)
      (least_le (suc d) (suc d) (cap (splits C b (suc p) i j (suc (j - i)))) (splits C b (suc p) i j (suc (j - i))) (cap_le _) (omega arith)
      (node_counts L G w P C apart d b (suc p) i j α h
      (λ k x y. whole_sound d C s t b i k x (omega arith))
      (λ k x y. subst (λ β. AtLeast d (C.item (suc p) k j) (λ f. Spans L G w β f k j)) (P.on p b α e) (s (suc p) k j y g))))

  pub leaf_sound : (d : ℕ) (C : Chart) → SoundTo L G w P d C → (p a i j : ℕ) (α : List ℕ) → P.rest p ≡ a ∷ α → Terminal G.terminals a → i < j → j ≤ length w → get_or w i 0 ≡ a
      → AtLeast d (C.item (suc p) (suc i) j) (λ f. Spans L G w (P.rest p) f i j)
  leaf_sound d C s p a i j α e t h g q =
      subst (λ β. AtLeast d (C.item (suc p) (suc i) j) (λ f. Spans L G w β f i j)) (sym e)
      (least_in d (C.item (suc p) (suc i) j) (λ f x. leaf t (omega arith) q x)
      (subst (λ β. AtLeast d (C.item (suc p) (suc i) j) (λ f. Spans L G w β f (suc i) j)) (P.on p a α e) (s (suc p) (suc i) j h g)))

  -- a count raised from 0 costs one of depth, a count raised from more none
  pub raise_new : (d : ℕ) (C : Chart) (p i j v : ℕ) → SoundTo L G w P d C → AtLeast (suc d) v (λ f. Spans L G w (P.rest p) f i j) → SoundTo L G w P (suc d) (item_raised C p i j v)
  raise_new d C p i j v s a q k l h g =
      raised_cases C p i j v q k l (λ z. AtLeast (suc d) z (λ f. Spans L G w (P.rest q) f k l))
      (λ e f o. subst (λ x. AtLeast (suc d) v (λ f. Spans L G w (P.rest x) f k l)) (sym e)
      (subst (λ y. AtLeast (suc d) v (λ f. Spans L G w (P.rest p) f y l)) (sym f)
      (subst (λ z. AtLeast (suc d) v (λ f. Spans L G w (P.rest p) f i z)) (sym o) a)))
      (least_le d (suc d) (C.item q k l) (C.item q k l) (omega arith) (omega arith) (s q k l h g))

  pub raise_more : (d : ℕ) (C : Chart) (p i j v : ℕ) → SoundTo L G w P d C → i ≤ j → j ≤ length w → 1 ≤ C.item p i j
      → AtLeast (suc d) v (λ f. Spans L G w (P.rest p) f i j) → SoundTo L G w P d (item_raised C p i j v)
  raise_more d C p i j v s h' g' m a q k l h g =
      let b = least_keep d (suc d) (C.item p i j) v m (s p i j h' g') a in
      raised_cases C p i j v q k l (λ z. AtLeast d z (λ f. Spans L G w (P.rest q) f k l))
      (λ e f o. subst (λ x. AtLeast d v (λ f. Spans L G w (P.rest x) f k l)) (sym e)
      (subst (λ y. AtLeast d v (λ f. Spans L G w (P.rest p) f y l)) (sym f)
      (subst (λ z. AtLeast d v (λ f. Spans L G w (P.rest p) f i z)) (sym o) b)))
      (s q k l h g)

  -- raising the count of rule r raises the sums of its left side alone, and by as much
  module _ (once : (r s : ℕ) → P.first r ≡ P.first s → r ≡ s) where
    pub kin_raised : (C : Chart) (r i j v b : ℕ) (m : ℕ) → r ≤ m → 1 ≤ r → (rule L G r).left ≡ b
        → kin L G P (item_raised C (P.first r) i j v) b i j m + C.item (P.first r) i j ≡ kin L G P C b i j m + v
    unfolding kin
    kin_raised C r i j v b zero h o e = absurd (omega arith)
    kin_raised C r i j v b (suc m) h o e = elim (ℕ_discrete r (suc m)) [
      | yes q ↦ subst (λ z. kin L G P (item_raised C (P.first r) i j v) b i j m + choose (eqb (rule L G z).left b) ((item_raised C (P.first r) i j v).item (P.first z) i j) 0
          + C.item (P.first r) i j ≡ kin L G P C b i j m + choose (eqb (rule L G z).left b) (C.item (P.first z) i j) 0 + v) q
          (rw (eq-eqb (rule L G r).left b e, raised_same C (P.first r) i j v) (omega (arith, kin-below C r i j v b m (omega arith))))
      | no n ↦ rw (raised_other C (P.first r) i j v (P.first (suc m)) i j (λ x y z. n (once r (suc m) (sym x)))) (omega (arith, kin_raised C r i j v b m (omega arith) o e))
    ]
      where
        kin-below : (C : Chart) (r i j v b m : ℕ) → m < r → kin L G P (item_raised C (P.first r) i j v) b i j m ≡ kin L G P C b i j m
        kin-below C r i j v b zero h = refl
        kin-below C r i j v b (suc m) h =
            rw (raised_other C (P.first r) i j v (P.first (suc m)) i j (λ x y z. absurd (let q : r ≡ suc m = once r (suc m) (sym x) in omega arith)), kin-below C r i j v b m (omega arith)) refl
