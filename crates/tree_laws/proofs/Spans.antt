-- Derivations between two places of a row: from the symbols α the forest f derives the terminals from place i to before place j.
-- Assumes nothing.
use Prim.Native.Nat.{ℕ, suc, ◌-◌, ◌≤◌}
use mathlib.Core.Path.{◌≡◌, refl, sym, ap, subst, ◌∙◌}
use mathlib.Core.List.{List, ◌∷◌}
use native.Mathlib.Omega.{arith}
use lib.ListN.{length, get_or, drop, length-drop}
use lib.Seq.{drop-cons}
use Rattle.grammar.specs.Limits.{Limits}
use Rattle.grammar.specs.Grammar.{Terminal, Grammar}
use Rattle.grammar.specs.Tree.{Trees, AppliesRuleOf}
use Rattle.grammar.proofs.Derives.{Forest, Derives, forest, trees}
use Rattle.tree_laws.specs.Spans.{Spans, end, leaf, node}

module _ (L : Limits) (G : Grammar) (w : List ℕ) where
  -- places rise, within the row
  pub spans_rise : {α : List ℕ} {f : Trees} {i j : ℕ} → Spans L G w α f i j → i ≤ j
  spans_rise (end h) = omega arith
  spans_rise (leaf t h e s) = omega (arith, spans_rise s)
  spans_rise (node r s u) = omega (arith, spans_rise s, spans_rise u)

  pub spans_within : {α : List ℕ} {f : Trees} {i j : ℕ} → Spans L G w α f i j → j ≤ length w
  spans_within (end h) = h
  spans_within (leaf t h e s) = spans_within s
  spans_within (node r s u) = spans_within u

  -- what derives between two places derives what stands there
  pub spans_derives : {α : List ℕ} {f : Trees} {i j : ℕ} → Spans L G w α f i j → Derives L G α (forest f) (drop i w) (drop j w)
  unfolding forest
  spans_derives (end h) = Derives.end
  spans_derives (leaf {a} {α} {f} {i} {j} t h e s) =
      subst (λ v. Derives L G (a ∷ α) (forest f) v (drop j w)) (sym (drop-cons w i 0 h ∙ ap (λ x. x ∷ drop (suc i) w) e)) (Derives.leaf t (spans_derives s))
  spans_derives (node r s u) = Derives.node r (spans_derives s) (spans_derives u)

  -- and the other way, for some last place
  pub derives_spans : {α : List ℕ} {f : Forest} {u v : List ℕ} → Derives L G α f u v → (i : ℕ) → i ≤ length w → u ≡ drop i w
      → (j : ℕ) × (Spans L G w α (trees f) i j × (v ≡ drop j w))
  unfolding trees
  derives_spans Derives.end i h e = (i, (end h, e))
  derives_spans (Derives.leaf {a} {α} {f} {w = u} {v = v} t d) i h e =
      let z : suc (length u) ≡ length w - i = ap length e ∙ length-drop i w in
      let q : a ∷ u ≡ get_or w i 0 ∷ drop (suc i) w = e ∙ drop-cons w i 0 (omega arith) in
      let x = derives_spans d (suc i) (omega arith) (cc q) in
      (x.0, (leaf {i = i} {j = x.0} t (omega arith) (cc q) x.1.0, x.1.1))
  derives_spans (Derives.node r d c) i h e =
      let x = derives_spans d i h e in
      let y = derives_spans c x.0 (spans_within x.1.0) x.1.1 in
      (y.0, (node r x.1.0 y.1.0, y.1.1))

  module _ (apart : (b r : ℕ) → AppliesRuleOf L G b r → Terminal G.terminals b → ⊥) where
    -- a forest determines where it ends
    pub spans_end : {α : List ℕ} {f : Trees} {i j k : ℕ} → Spans L G w α f i j → Spans L G w α f i k → j ≡ k
    spans_end (end h) (end h') = refl
    spans_end (leaf t h e s) (leaf t' h' e' s') = spans_end s s'
    spans_end (leaf t h e s) (node r s' u') = absurd (apart _ _ r t)
    spans_end (node r s u) (leaf t h e s') = absurd (apart _ _ r t)
    spans_end {k = m} (node {α = α} {g = g} r s u) (node r' s' u') = spans_end u (subst (λ x. Spans L G w α g x m) (sym (spans_end s s')) u')
