-- What a chart's equations make of counts that are not too large is not too large: the sum over a nonterminal's rules, and the sum
-- over the splits of a nonterminal and what follows it. Assumes nothing.
use Prim.Native.Nat.{ℕ, zero, suc, ◌+◌, ◌-◌, ◌*◌, ◌≤◌, ◌<◌}
use mathlib.Core.Path.{◌≡◌, refl, sym, ap, ap₂, subst, ◌∙◌}
use mathlib.Core.Bool.{Bool, true, false}
use mathlib.Core.List.{List, ◌∷◌}
use native.Mathlib.Omega.{arith}
use lib.Dec.{eqb}
use lib.ListN.{length}
use borrow.Author.Tests.{eqb-true}
use Rattle.grammar.specs.Basics.{choose}
use Rattle.grammar.specs.Limits.{Limits}
use Rattle.grammar.specs.Grammar.{Terminal, Grammar, IsRule, rule}
use Rattle.grammar.specs.Tree.{Trees, AppliesRuleOf}
use Rattle.tree_laws.specs.Spans.{tree, AtLeast, depth, max_of, Spans, node}
use Rattle.tree_laws.specs.Chart.{Places, Chart, splits, kin}
use Rattle.tree_laws.proofs.AtLeast.{least_zero, least_in, least_map, least_add, least_mul, max_left, max_both}
use Rattle.tree_laws.proofs.Spans.{spans_end}

-- the first tree of one forest before another forest
unfoldable beside : Trees → Trees → Trees
beside Trees.none g = g
beside (Trees.child t f) g = Trees.child t g

module _ (L : Limits) (G : Grammar) (w : List ℕ) where
  -- a tree of b whose root applies rule r, from i to j
  pub record RootAt (b i j r : ℕ) (h : Trees) : Type 0 where
    pub below : Trees
    pub shape : h ≡ tree r below Trees.none
    pub applies : AppliesRuleOf L G b r
    pub spans : Spans L G w (rule L G r).right below i j

  -- a tree of b whose root applies one of the first m rules, from i to j
  pub record RootTo (b i j m : ℕ) (h : Trees) : Type 0 where
    pub number : ℕ
    pub upto : number ≤ m
    pub root : RootAt b i j number h

  -- a tree of b from i to k, then a forest of α from k to j
  pub record SplitAt (b : ℕ) (α : List ℕ) (i j k : ℕ) (h : Trees) : Type 0 where
    pub number : ℕ
    pub below : Trees
    pub after : Trees
    pub shape : h ≡ tree number below after
    pub applies : AppliesRuleOf L G b number
    pub left : Spans L G w (rule L G number).right below i k
    pub right : Spans L G w α after k j

  -- the same for one of the first m splits
  pub record SplitTo (b : ℕ) (α : List ℕ) (i j m : ℕ) (h : Trees) : Type 0 where
    pub place : ℕ
    pub upto : place < i + m
    pub split : SplitAt b α i j place h

  beside_apart : (b i k m : ℕ) (f g f' g' : Trees) → RootTo b i k m f → RootTo b i k m f' → beside f g ≡ beside f' g' → (f ≡ f') × (g ≡ g')
  unfolding beside
  beside_apart b i k m f g f' g' x y e =
      let q : tree x.number x.root.below g ≡ tree y.number y.root.below g' =
      sym (ap (λ z. beside z g) x.root.shape) ∙ e ∙ ap (λ z. beside z g') y.root.shape in
      (x.root.shape ∙ ap₂ (λ r d. tree r d Trees.none) (cc q) (cc q) ∙ sym y.root.shape, cc q)

  beside_deep : (b i k m d : ℕ) (f g : Trees) → RootTo b i k m f → depth f ≤ suc d → depth g ≤ d → depth (beside f g) ≤ suc d
  unfolding beside depth
  beside_deep b i k m d f g x q l =
      let o : depth (tree x.number x.root.below Trees.none) ≤ suc d = subst (λ z. depth z ≤ suc d) x.root.shape q in
      let u : suc (depth x.root.below) ≤ suc d = omega (arith, o, max_left (suc (depth x.root.below)) 0) in
      subst (λ z. depth (beside z g) ≤ suc d) (sym x.root.shape) (max_both (suc (depth x.root.below)) (depth g) (suc d) u (omega arith))

  module _ (P : Places L G) (C : Chart) where
    rule-counts : (d b i j r : ℕ) → IsRule G r → (t : Bool) → eqb (rule L G r).left b ≡ t
        → AtLeast d (C.item (P.first r) i j) (λ f. Spans L G w (rule L G r).right f i j)
        → AtLeast (suc d) (choose t (C.item (P.first r) i j) 0) (RootAt b i j r)
    unfolding depth max_of
    rule-counts d b i j r s true e a =
        least_map d (suc d) (C.item (P.first r) i j) (λ f. tree r f Trees.none) (λ f g q. cc q)
        (λ f x. record { below = f; shape = refl; applies = (s, eqb-true (rule L G r).left b e); spans = x })
        (λ f q. max_both (suc (depth f)) 0 (suc d) (omega arith) (omega arith)) a
    rule-counts d b i j r s false e a = least_zero (suc d) 0 (omega arith)

    -- the sum over the first m rules
    pub kin-counts : (d b i j m : ℕ) → m ≤ length G.rules
        → ((r : ℕ) → IsRule G r → AtLeast d (C.item (P.first r) i j) (λ f. Spans L G w (rule L G r).right f i j))
        → AtLeast (suc d) (kin L G P C b i j m) (RootTo b i j m)
    unfolding kin
    kin-counts d b i j zero h a = least_zero (suc d) 0 (omega arith)
    kin-counts d b i j (suc m) h a =
        least_add {X = RootTo b i j m} {Y = RootAt b i j (suc m)} (suc d) (kin L G P C b i j m) (choose (eqb (rule L G (suc m)).left b) (C.item (P.first (suc m)) i j) 0)
        (λ f x. record { number = x.number; upto = omega (arith, x.upto); root = x.root })
        (λ f y. record { number = suc m; upto = omega arith; root = y })
        (λ f x y. let q : tree x.number x.root.below Trees.none ≡ tree (suc m) y.below Trees.none = sym x.root.shape ∙ y.shape in
        let n : x.number ≡ suc m = cc q in omega (arith, x.upto))
        (kin-counts d b i j m (omega arith) a)
        (rule-counts d b i j (suc m) (omega arith, omega arith) (eqb (rule L G (suc m)).left b) refl (a (suc m) (omega arith, omega arith)))

    module _ (apart : (b r : ℕ) → AppliesRuleOf L G b r → Terminal G.terminals b → ⊥) where
      -- a forest has one split
      same_place : (b i j k l : ℕ) (α : List ℕ) (f : Trees) → SplitAt b α i j k f → SplitAt b α i j l f → k ≡ l
      same_place b i j k l α f x y =
          let q : tree x.number x.below x.after ≡ tree y.number y.below y.after = sym x.shape ∙ y.shape in
          let n : x.number ≡ y.number = cc q in
          let d : x.below ≡ y.below = cc q in
          spans_end L G w apart (subst (λ z. Spans L G w (rule L G z).right y.below i k) n (subst (λ z. Spans L G w (rule L G x.number).right z i k) d x.left)) y.left

      -- the sum over the first m splits
      pub splits-counts : (d b p i j m : ℕ) (α : List ℕ) → i + m ≤ suc j
          → ((k : ℕ) → i ≤ k → k ≤ j → AtLeast (suc d) (C.whole b i k) (RootTo b i k (length G.rules)))
          → ((k : ℕ) → i ≤ k → k ≤ j → AtLeast d (C.item p k j) (λ f. Spans L G w α f k j))
          → AtLeast (suc d) (splits C b p i j m) (SplitTo b α i j m)
      unfolding splits beside
      splits-counts d b p i j zero α h a c = least_zero (suc d) 0 (omega arith)
      splits-counts d b p i j (suc m) α h a c =
          least_add {X = SplitTo b α i j m} {Y = SplitAt b α i j (i + m)} (suc d) (splits C b p i j m) (C.whole b i (i + m) * C.item p (i + m) j)
          (λ f x. record { place = x.place; upto = omega (arith, x.upto); split = x.split })
          (λ f y. record { place = i + m; upto = omega arith; split = y })
          (λ f x y. let q : x.place ≡ i + m = same_place b i j x.place (i + m) α f x.split y in omega (arith, x.upto))
          (splits-counts d b p i j m α (omega arith) a c)
          (least_mul (suc d) d (suc d) (C.whole b i (i + m)) (C.item p (i + m) j) beside
          (λ f g f' g' x y e. beside_apart b i (i + m) (length G.rules) f g f' g' x y e)
          (λ f g x y. record { number = x.number; below = x.root.below; after = g; shape = ap (λ z. beside z g) x.root.shape; applies = x.root.applies; left = x.root.spans; right = y })
          (λ f g x q l. beside_deep b i (i + m) (length G.rules) d f g x q l)
          (a (i + m) (omega arith) (omega arith)) (c (i + m) (omega arith) (omega arith)))

      -- all splits: the forests of b, then α
      pub node_counts : (d b p i j : ℕ) (α : List ℕ) → i ≤ j
          → ((k : ℕ) → i ≤ k → k ≤ j → AtLeast (suc d) (C.whole b i k) (RootTo b i k (length G.rules)))
          → ((k : ℕ) → i ≤ k → k ≤ j → AtLeast d (C.item p k j) (λ f. Spans L G w α f k j))
          → AtLeast (suc d) (splits C b p i j (suc (j - i))) (λ f. Spans L G w (b ∷ α) f i j)
      node_counts d b p i j α h a c =
          least_in (suc d) (splits C b p i j (suc (j - i)))
          (λ f x. subst (λ z. Spans L G w (b ∷ α) z i j) (sym x.split.shape) (node x.split.applies x.split.left x.split.right))
          (splits-counts d b p i j (suc (j - i)) α (omega arith) a c)
