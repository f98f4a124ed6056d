-- The count of a chart that is stable and not too large tells none, one or several. Assumes nothing.
use Prim.Native.Nat.{ℕ, ◌-◌, ◌≤◌, ◌<◌}
use mathlib.Core.Path.{◌≡◌, refl, sym, ap, subst, ◌∙◌}
use mathlib.Core.List.{List, [], ◌∷◌}
use native.Mathlib.Omega.{arith}
use lib.ListN.{length, drop, length-drop}
use Rattle.grammar.specs.Limits.{Limits}
use Rattle.grammar.specs.Grammar.{Terminal, Grammar, start, WellFormed}
use Rattle.grammar.specs.Tree.{Tree, Trees, AppliesRuleOf, HasTree}
use Rattle.grammar.proofs.Trees.{same_is, is_same}
use Rattle.grammar.proofs.Derives.{Derives, forest, trees, trees_forest, forest_same, apart, has_derives, derives_tree}
use Rattle.trees.specs.Trees.{rules_of, nothing, one, several, Agrees, count_0, count_1, count_2}
use Rattle.tree_laws.specs.Spans.{AtLeast, depth, Spans}
use Rattle.tree_laws.specs.Chart.{Places, Chart, Stable}
use Rattle.tree_laws.proofs.Spans.{spans_within, spans_derives, derives_spans}
use Rattle.tree_laws.proofs.Chart.{some, unique}

no_rest : (w : List ℕ) (j : ℕ) → j ≤ length w → [] ≡ drop j w → j ≡ length w
no_rest w j h e = let q : length {A = ℕ} [] ≡ length w - j = ap length e ∙ length-drop j w in omega arith

rest-none : (w : List ℕ) → drop (length w) w ≡ []
rest-none [] = refl
rest-none (x ∷ w) = rest-none w

only_one : {t u : Tree} → Trees.child t Trees.none ≡ Trees.child u Trees.none → t ≡ u
only_one e = cc e

module _ (L : Limits) (G : Grammar) (W : WellFormed L G) (room : L.max_terminals < L.nonterminal_base) (w : List ℕ) where
  -- a tree of the sentence w is a forest of S over the whole of w, and the other way
  pub tree_spans : {t : Tree} → HasTree L G w t → Spans L G w (start L ∷ []) (Trees.child t Trees.none) 0 (length w)
  tree_spans {t} h =
      let x = derives_spans L G w (has_derives L G W room h) 0 (omega arith) refl in
      subst (λ f. Spans L G w (start L ∷ []) f 0 (length w)) (trees_forest (Trees.child t Trees.none))
      (subst (λ j. Spans L G w (start L ∷ []) (trees (forest (Trees.child t Trees.none))) 0 j) (no_rest w x.0 (spans_within L G w x.1.0) x.1.1) x.1.0)

  pub spans_tree : {f : Trees} → Spans L G w (start L ∷ []) f 0 (length w) → (t : Tree) × (Trees.child t Trees.none ≡ f) × HasTree L G w t
  spans_tree {f} s =
      let x = derives_tree L G W room (subst (λ v. Derives L G (start L ∷ []) (forest f) w v) (rest-none w) (spans_derives L G w s)) in
      (x.0, forest_same x.1, x.2)

  module _ (P : Places L G) (C : Chart) (S : Stable L G w P C) (p : ℕ) (e : P.rest p ≡ start L ∷ [])
      (d : ℕ) (A : AtLeast d (C.item p 0 (length w)) (λ f. Spans L G w (start L ∷ []) f 0 (length w))) where
    -- no rule is a rule of a terminal
    kinds : (b r : ℕ) → AppliesRuleOf L G b r → Terminal G.terminals b → ⊥
    kinds b r a t = apart L G W room a t

    pub none_found : C.item p 0 (length w) < 1 → Agrees L G w nothing
    none_found h = count_0 (λ t x. omega (arith, some L G w P C S kinds (tree_spans x) p e))

    pub one_found : C.item p 0 (length w) ≡ 1 → (t : Tree) × HasTree L G w t × Agrees L G w (one (rules_of t)) × (depth (Trees.child t Trees.none) ≤ d)
    one_found h =
        let x = A.first (omega arith) in
        let y = spans_tree x.1.0 in
        (y.0, y.2, count_1 y.0 y.2 (λ u v. is_same (only_one (unique L G w P C S kinds (tree_spans y.2) (tree_spans v) p e (omega arith)))), subst (λ z. depth z ≤ d) (sym y.1) x.1.1)

    pub several-found : 2 ≤ C.item p 0 (length w) → Agrees L G w several
    several-found h =
        let x = A.second h in
        let y = spans_tree x.1.1.0 in
        let z = spans_tree x.1.1.1 in
        count_2 (record {
          first = y.0;
          second = z.0;
          first-has = y.2;
          second-has = z.2;
          unequal = λ s. x.1.1.2 (sym y.1 ∙ ap (λ t. Trees.child t Trees.none) (same_is s) ∙ z.1);
        })
