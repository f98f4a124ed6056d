-- One answer agrees at most, the rules from the root determine the tree, and several needs two trees. Assumes nothing.
use Prim.Native.Nat.{ℕ, ◌<◌}
use mathlib.Core.Path.{◌≡◌, refl, sym, ap, ap₂, subst, ◌∙◌}
use mathlib.Core.List.{List, [], ◌++◌, append_assoc}
use native.Mathlib.Omega.{arith}
use Rattle.grammar.specs.Limits.{Limits}
use Rattle.grammar.specs.Grammar.{Terminal, Nonterminal, Grammar, WellFormed, rule}
use Rattle.grammar.specs.Tree.{Tree, Trees, DerivationTree, Children, HasTwoTrees}
use Rattle.grammar.proofs.Trees.{same_is, is_same}
use Rattle.trees.specs.Trees.{rules_of, rules_below, TreeCount, one, several, Agrees, count_0, count_1, count_2}

module _ (L : Limits) (G : Grammar) (w : List ℕ) where
  -- one answer agrees with the count at most
  pub agrees_once : {x y : TreeCount} → Agrees L G w x → Agrees L G w y → x ≡ y
  agrees_once (count_0 a) (count_0 b) = refl
  agrees_once (count_0 a) (count_1 t h u) = absurd (a t h)
  agrees_once (count_0 a) (count_2 s) = absurd (a s.first s.first-has)
  agrees_once (count_1 t h u) (count_0 b) = absurd (b t h)
  agrees_once (count_1 t h u) (count_1 t' h' u') = ap (λ v. one (rules_of v)) (same_is (u t' h'))
  agrees_once (count_1 t h u) (count_2 s) =
      absurd (s.unequal (is_same (sym (same_is (u s.first s.first-has)) ∙ same_is (u s.second s.second-has))))
  agrees_once (count_2 s) (count_0 b) = absurd (b s.first s.first-has)
  agrees_once (count_2 s) (count_1 t h u) =
      absurd (s.unequal (is_same (sym (same_is (u s.first s.first-has)) ∙ same_is (u s.second s.second-has))))
  agrees_once (count_2 s) (count_2 s') = refl

  -- where no sentence has two trees, as an accepted certificate shows, several never occurs
  pub never_several : ¬ HasTwoTrees L G w → Agrees L G w several → ⊥
  never_several n (count_2 s) = n s

module _ (L : Limits) (G : Grammar) (W : WellFormed L G) (room : L.max_terminals < L.nonterminal_base) where
  kinds : {a : ℕ} → Terminal G.terminals a → Nonterminal L G.nonterminals a → ⊥
  kinds t n = omega (arith, W.terminals)

  mutual
    unfolding rules_of

    tree-front : {b : ℕ} {t u : Tree} → DerivationTree L G b t → DerivationTree L G b u → (x y : List ℕ) → rules_of t ++ x ≡ rules_of u ++ y → (t ≡ u) × (x ≡ y)
    tree-front (DerivationTree.applies {i = i} {ts = ts} a c) (DerivationTree.applies {i = j} {ts = us} a' c') x y e =
        let n : i ≡ j = cc e in
        let m : rules_below ts ++ x ≡ rules_below us ++ y = cc e in
        let z = trees-front c (subst (λ r. Children L G (rule L G r).right us) (sym n) c') x y m in
        (ap₂ Tree.node n z.0, z.1)

    trees-front : {α : List ℕ} {ts us : Trees} → Children L G α ts → Children L G α us → (x y : List ℕ) → rules_below ts ++ x ≡ rules_below us ++ y → (ts ≡ us) × (x ≡ y)
    trees-front Children.end Children.end x y e = (refl, e)
    trees-front (Children.terminal t c) (Children.terminal t' c') x y e = trees-front c c' x y e
    trees-front (Children.terminal t c) (Children.nonterminal n d c') x y e = absurd (kinds t n)
    trees-front (Children.nonterminal n d c) (Children.terminal t c') x y e = absurd (kinds t n)
    trees-front (Children.nonterminal {t = t} {ts = ts} n d c) (Children.nonterminal {t = u} {ts = us} n' d' c') x y e =
        let q : rules_of t ++ (rules_below ts ++ x) ≡ rules_of u ++ (rules_below us ++ y) =
        sym (append_assoc (rules_of t) (rules_below ts) x) ∙ e ∙ append_assoc (rules_of u) (rules_below us) y in
        let z = tree-front d d' (rules_below ts ++ x) (rules_below us ++ y) q in
        let v = trees-front c c' x y z.1 in
        (ap₂ Trees.child z.0 v.0, v.1)

  -- the rules from the root, children left to right, determine the tree
  pub rules_determine : {b : ℕ} {t u : Tree} → DerivationTree L G b t → DerivationTree L G b u → rules_of t ≡ rules_of u → t ≡ u
  rules_determine {t = t} {u = u} d d' e = (tree-front d d' [] [] (ap (λ v. v ++ []) e)).0
