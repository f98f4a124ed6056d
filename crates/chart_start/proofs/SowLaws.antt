-- One rule after the other is seen to: an empty one adds 1 on the diagonal of its left side's plane, others nothing. Assumes nothing.
use Prim.Native.Nat.{ℕ, suc, ◌+◌, ◌≤◌, ◌<◌}
use mathlib.Core.Path.{◌≡◌, refl, sym, ap, ap₂, subst, ◌∙◌}
use mathlib.Core.Bool.{Bool, true, false}
use mathlib.Core.Logic.{◌⊎◌, inl, inr}
use mathlib.Core.List.{List, [], ◌∷◌}
use native.Mathlib.Omega.{arith}
use native.Mathlib.Decide.{ℕ_discrete}
use lib.Dec.{eqb}
use lib.ListN.{length, get_or}
use borrow.Author.Tests.{eq-eqb, ne_eqb}
use Rattle.grammar.specs.Basics.{choose}
use Rattle.grammar.specs.Limits.{limits}
use Rattle.grammar.specs.Grammar.{Grammar, IsRule, rule}
use Rattle.tree_laws.specs.Chart.{cap, Places, Chart, kin}
use Rattle.tree_laws.proofs.Cap.{cap_early}
use Rattle.counts.specs.Counts.{item_cell, whole_cell}
use Rattle.chart.specs.Rows.{home_of}
use Rattle.chart.specs.Filling.{Sheet}
use Rattle.chart.proofs.Reading.{inner, outer, some-code, end-code}
use Rattle.chart_start.specs.Sown.{Diagonal, Columned, bare, Sown}
use Rattle.chart_start.proofs.DiagonalLaws.{diagonal_else}

module _ {G : Grammar} {P : Places limits G} {Q : ℕ} {ahead lead home : List ℕ} (S : Sheet G P Q ahead lead home) (w : List ℕ) where
  abbrev m : ℕ
  m = length w + 1

  abbrev E : Chart
  E = bare G P

  -- from a row of 0, the plane of ends
  pub sown-start : (row row' : List ℕ) → ((k : ℕ) → get_or row k 0 ≡ 0) → Diagonal m 3 m row row' → Sown G P Q home m row' 0
  unfolding kin cap
  sown-start row row' z d = record {
    small = d.small (λ k. omega (arith, z k));
    ones = λ i j hi hj. elim (ℕ_discrete i j) [
      | yes e ↦ ap (λ k. get_or row' (item_cell m 3 i k) 0) (sym e) ∙ d.on i hi ∙ ap (λ k. cap (k + 1)) (z (item_cell m 3 i i)) ∙ sym (ap (λ t. choose t 1 0) (eq-eqb i j e))
      | no e ↦ diagonal_else m 3 row row' d 3 i j hi hj (λ a b. e b) ∙ z (item_cell m 3 i j) ∙ sym (ap (λ t. choose t 1 0) (ne_eqb i j e))
    ];
    none = λ i j hi hj. diagonal_else m 3 row row' d 0 j i hj hi (λ a b. omega arith) ∙ z (item_cell m 0 j i);
    empty = λ p x i j α e hi hj. diagonal_else m 3 row row' d p i j hi hj (λ a b. not_three p x α e a) ∙ z (item_cell m p i j);
    wholes = λ b i j hi hj h. diagonal_else m 3 row row' d (home_of home b) j i hj hi (λ a c. omega (arith, a, S.home_four b h)) ∙ z (item_cell m (home_of home b) j i);
  }
    where
      not_three : (p x : ℕ) (α : List ℕ) → P.rest p ≡ x ∷ α → p ≡ 3 → ⊥
      not_three p x α e a =
          omega (arith, end-code G P Q ahead lead home w S p (ap P.rest a ∙ S.ends), some-code G P Q ahead lead home w S p x α e, (S.symbol p x α e).0)

  -- what a rule adds to the sums
  kin-more : (b i j r : ℕ) (v : ℕ) → E.item (P.first (suc r)) i j ≡ v → kin limits G P E b i j (suc r) ≡ kin limits G P E b i j r + choose (eqb (rule limits G (suc r)).left b) v 0
  unfolding kin
  kin-more b i j r v e = ap (λ z. kin limits G P E b i j r + choose (eqb (rule limits G (suc r)).left b) z 0) e

  -- a rule that is not empty adds nothing
  pub sown_skip : (row : List ℕ) (r : ℕ) → IsRule G (suc r) → 1 ≤ length (rule limits G (suc r)).right → Sown G P Q home m row r → Sown G P Q home m row (suc r)
  sown_skip row r q h s = record {
    small = s.small;
    ones = s.ones;
    none = s.none;
    empty = s.empty;
    wholes = λ b i j hi hj g. s.wholes b i j hi hj g ∙ ap cap (sym (kin-more b i j r 0 (inside i j) ∙ none_more (eqb (rule limits G (suc r)).left b) (kin limits G P E b i j r)));
  }
    where
      none_more : (t : Bool) (n : ℕ) → n + choose t 0 0 ≡ n
      none_more true n = omega arith
      none_more false n = omega arith

      inside : (i j : ℕ) → E.item (P.first (suc r)) i j ≡ 0
      inside i j = go (rule limits G (suc r)).right (P.begins (suc r) q) h
        where
          go : (α : List ℕ) → P.rest (P.first (suc r)) ≡ α → 1 ≤ length α → E.item (P.first (suc r)) i j ≡ 0
          go [] e l = absurd (omega arith)
          go (x ∷ α) e l = ap (λ t. choose t (choose (eqb i j) 1 0) 0) (inner G P Q ahead lead home w S (P.first (suc r)) x α e)

  -- an empty rule adds 1 on the diagonal of its left side
  pub sown-more : (row row' : List ℕ) (r hb : ℕ) → IsRule G (suc r) → length (rule limits G (suc r)).right < 1 → hb ≡ home_of home (rule limits G (suc r)).left → Diagonal m hb m row row'
      → Sown G P Q home m row r → Sown G P Q home m row' (suc r)
  sown-more row row' r hb q h e d s = record {
    small = d.small s.small;
    ones = λ i j hi hj. diagonal_else m hb row row' d 3 i j hi hj (λ a c. omega (arith, a, e, S.homed (suc r) q)) ∙ s.ones i j hi hj;
    none = λ i j hi hj. diagonal_else m hb row row' d 0 j i hj hi (λ a c. omega (arith, a, e, S.homed (suc r) q)) ∙ s.none i j hi hj;
    empty = λ p x i j α f hi hj. diagonal_else m hb row row' d p i j hi hj (λ a c. not_home p x α f (a ∙ e)) ∙ s.empty p x i j α f hi hj;
    wholes = λ b i j hi hj g. elim (ℕ_discrete b left) [
      | no n ↦ diagonal_else m hb row row' d (home_of home b) j i hj hi (λ a c. n (S.home_once b left (omega (arith, S.homed (suc r) q)) (a ∙ e)))
          ∙ s.wholes b i j hi hj g ∙ ap cap (sym (kin-more b i j r _ refl ∙ ap (λ t. kin limits G P E b i j r + choose t (E.item (P.first (suc r)) i j) 0) (ne_eqb left b (λ o. n (sym o))) ∙ plain (kin limits G P E b i j r)))
      | yes n ↦ here b i j hi hj g n (elim (ℕ_discrete i j) [ yes o ↦ inl o | no o ↦ inr o ])
    ];
  }
    where
      left : ℕ
      left = (rule limits G (suc r)).left

      plain : (n : ℕ) → n + 0 ≡ n
      plain n = omega arith

      not_home : (p x : ℕ) (α : List ℕ) → P.rest p ≡ x ∷ α → p ≡ home_of home (rule limits G (suc r)).left → ⊥
      not_home p x α f a =
          omega (arith, end-code G P Q ahead lead home w S p (ap P.rest a ∙ S.home_end (rule limits G (suc r)).left), some-code G P Q ahead lead home w S p x α f, (S.symbol p x α f).0)

      empty_right : (rule limits G (suc r)).right ≡ []
      empty_right = go (rule limits G (suc r)).right refl h
        where
          go : (α : List ℕ) → (rule limits G (suc r)).right ≡ α → length α < 1 → (rule limits G (suc r)).right ≡ []
          go [] e l = e
          go (x ∷ α) e l = absurd (omega arith)

      at : (i j : ℕ) → E.item (P.first (suc r)) i j ≡ choose (eqb i j) 1 0
      at i j = ap (λ t. choose t (choose (eqb i j) 1 0) 0) (outer G P Q ahead lead home w S (P.first (suc r)) (P.begins (suc r) q ∙ empty_right))

      here : (b i j : ℕ) → i < m → j < m → 1 ≤ home_of home b → b ≡ (rule limits G (suc r)).left → (i ≡ j) ⊎ (i ≡ j → ⊥)
          → get_or row' (whole_cell m (home_of home b) i j) 0 ≡ cap (kin limits G P E b i j (suc r))
      here b i j hi hj g n (inl o) =
          let z : home_of home b ≡ hb = ap (home_of home) n ∙ sym e in
          ap₂ (λ h j. get_or row' (whole_cell m h i j) 0) z (sym o) ∙ d.on i hi
          ∙ ap (λ k. cap (k + 1)) (ap₂ (λ h j. get_or row (whole_cell m h i j) 0) (sym z) o ∙ s.wholes b i j hi hj g)
          ∙ cap_early (kin limits G P E b i j r) 1
          ∙ ap cap (sym (kin-more b i j r 1 (at i j ∙ ap (λ t. choose t 1 0) (eq-eqb i j o)) ∙ ap (λ t. kin limits G P E b i j r + choose t 1 0) (eq-eqb (rule limits G (suc r)).left b (sym n))))
      here b i j hi hj g n (inr o) =
          diagonal_else m hb row row' d (home_of home b) j i hj hi (λ a c. o (sym c)) ∙ s.wholes b i j hi hj g
          ∙ ap cap (sym (kin-more b i j r 0 (at i j ∙ ap (λ t. choose t 1 0) (ne_eqb i j o)) ∙ ap (λ t. kin limits G P E b i j r + choose t 0 0) (eq-eqb (rule limits G (suc r)).left b (sym n)) ∙ plain (kin limits G P E b i j r)))

  -- either way
  pub sown-turn : (row row' lefts lengths : List ℕ) (count r b k : ℕ) → Columned G count lefts lengths → r < count → b ≡ get_or lefts r 0 → k ≡ get_or lengths r 0
      → (k ≡ 0 → Diagonal m (home_of home b) m row row') → ((k ≡ 0 → ⊥) → row' ≡ row) → Sown G P Q home m row r → Sown G P Q home m row' (r + 1)
  sown-turn row row' lefts lengths count r b k X h e f d y s =
      let n : suc r ≡ r + 1 = omega arith in
      let q : IsRule G (suc r) = (omega arith, omega (arith, X.all)) in
      let z : k ≡ length (rule limits G (suc r)).right = f ∙ X.size r h in
      subst (λ t. Sown G P Q home m row' t) n (elim (ℕ_discrete k 0) [
        | yes o ↦ sown-more row row' r (home_of home b) q (omega arith) (ap (home_of home) (e ∙ X.left r h)) (d o) s
        | no o ↦ subst (λ t. Sown G P Q home m t (suc r)) (sym (y o)) (sown_skip row r q (omega arith) s)
      ])
