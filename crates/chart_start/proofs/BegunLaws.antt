-- Where all rules are seen to, the chart is begun. Assumes nothing.
use Prim.Native.Nat.{ℕ, zero, suc, ◌+◌, ◌≤◌, ◌<◌}
use mathlib.Core.Path.{◌≡◌, refl, sym, ap, ap₂, subst, ◌∙◌}
use mathlib.Core.Bool.{Bool, true, false}
use mathlib.Core.Logic.{inl, inr}
use mathlib.Core.List.{List, [], ◌∷◌}
use native.Mathlib.Omega.{arith}
use native.Mathlib.Decide.{ℕ_discrete}
use lib.Dec.{eqb}
use lib.ListN.{length, get_or}
use borrow.Author.Tests.{eq-eqb, ne_eqb}
use Rattle.grammar.specs.Basics.{choose}
use Rattle.grammar.specs.Limits.{limits}
use Rattle.grammar.specs.Grammar.{Grammar, rule}
use Rattle.grammar.specs.Tree.{Trees}
use Rattle.tree_laws.specs.Spans.{AtLeast, depth, Spans, end}
use Rattle.tree_laws.specs.Chart.{cap, Places, Chart, kin, SoundTo, Sums}
use Rattle.tree_laws.proofs.Rises.{kin-same}
use Rattle.tree_laws.proofs.AtLeast.{least_zero, least_one}
use Rattle.counts.specs.Counts.{item_cell, whole_cell}
use Rattle.counts.specs.View.{within, view_of}
use Rattle.counts.proofs.View.{range, read-end, read_whole}
use Rattle.chart.specs.Rows.{home_of}
use Rattle.chart.specs.Filling.{code_of, Sheet, chart_of, Begun}
use Rattle.chart.proofs.Reading.{inner, outer, either}
use Rattle.chart.proofs.MadeLaws.{home_in}
use Rattle.chart_start.specs.Sown.{bare, Sown}

module _ {G : Grammar} {P : Places limits G} {Q : ℕ} {ahead lead home : List ℕ} (S : Sheet G P Q ahead lead home) (w : List ℕ)
    (in-home : (c : ℕ) → get_or home c 0 < Q) (four : 4 ≤ Q) where
  abbrev m : ℕ
  m = length w + 1

  abbrev E : Chart
  E = bare G P

  kin-none : (C : Chart) (b i j n : ℕ) → ((r : ℕ) → 1 ≤ r → r ≤ n → (rule limits G r).left ≡ b → ⊥) → kin limits G P C b i j n ≡ 0
  unfolding kin
  kin-none C b i j zero h = refl
  kin-none C b i j (suc n) h =
      ap₂ (λ x t. x + choose t (C.item (P.first (suc n)) i j) 0) (kin-none C b i j n (λ r x y. h r x (omega arith))) (ne_eqb (rule limits G (suc n)).left b (h (suc n) (omega arith) (omega arith)))

  blank : (row : List ℕ) (n : ℕ) → Sown G P Q home m row n → (p x k l : ℕ) (α : List ℕ) → P.rest p ≡ x ∷ α → (chart_of G P Q home w row).item p k l ≡ 0
  unfolding view_of
  blank row n s p x k l α f = rw (inner G P Q ahead lead home w S p x α f) (go (within Q m p k l) refl)
    where
      go : (t : Bool) → within Q m p k l ≡ t → choose t (get_or row (item_cell m p k l) 0) 0 ≡ 0
      go false e = refl
      go true e = let r = range Q m p k l e in s.empty p x k l α f r.1 r.2

  at-end : (row : List ℕ) (p i j : ℕ) → P.rest p ≡ [] → (chart_of G P Q home w row).item p i j ≡ choose (eqb i j) 1 0
  at-end row p i j e = read-end Q m (λ p. eqb (code_of (P.rest p)) 0) (home_of home) row p i j (outer G P Q ahead lead home w S p e)

  -- items are those of the bare chart
  items : (row : List ℕ) (n : ℕ) → Sown G P Q home m row n → (i j p : ℕ) → (chart_of G P Q home w row).item p i j ≡ E.item p i j
  items row n s i j p = elim (either G P Q ahead lead home w S p) [
    | inl e ↦ at-end row p i j e ∙ sym (ap (λ t. choose t (choose (eqb i j) 1 0) 0) (outer G P Q ahead lead home w S p e))
    | inr e ↦ blank row n s p e.0 i j e.1.0 e.1.1 ∙ sym (ap (λ t. choose t (choose (eqb i j) 1 0) 0) (inner G P Q ahead lead home w S p e.0 e.1.0 e.1.1))
  ]

  sound : (row : List ℕ) (n : ℕ) → Sown G P Q home m row n → SoundTo limits G w P 0 (chart_of G P Q home w row)
  unfolding depth
  sound row n s p i j h g = elim (either G P Q ahead lead home w S p) [
    | inl e ↦ subst (λ α. AtLeast 0 ((chart_of G P Q home w row).item p i j) (λ f. Spans limits G w α f i j)) (sym e)
        (subst (λ v. AtLeast 0 v (λ f. Spans limits G w [] f i j)) (sym (at-end row p i j e)) (elim (ℕ_discrete i j) [
          | yes o ↦ subst (λ t. AtLeast 0 (choose t 1 0) (λ f. Spans limits G w [] f i j)) (sym (eq-eqb i j o))
              (least_one 0 1 (omega arith) Trees.none (subst (λ z. Spans limits G w [] Trees.none i z) o (end (omega arith))) (omega arith))
          | no o ↦ subst (λ t. AtLeast 0 (choose t 1 0) (λ f. Spans limits G w [] f i j)) (sym (ne_eqb i j o)) (least_zero 0 0 (omega arith))
        ]))
    | inr e ↦ least_zero 0 ((chart_of G P Q home w row).item p i j) (omega (arith, blank row n s p e.0 i j e.1.0 e.1.1))
  ]

  sums : (row : List ℕ) → Sown G P Q home m row (length G.rules) → Sums limits G w P (chart_of G P Q home w row)
  unfolding cap
  sums row s b i j h g = elim (ℕ_discrete (home_of home b) 0) [
    | no o ↦ read_whole Q m (λ p. eqb (code_of (P.rest p)) 0) (home_of home) row b i j (home_in home b Q in-home (omega (arith, four))) (omega arith) (omega arith)
        ∙ s.wholes b i j (omega arith) (omega arith) (omega arith)
        ∙ ap cap (sym (kin-same limits G w P E (chart_of G P Q home w row) b i j (length G.rules) (λ r x y e. items row (length G.rules) s i j (P.first r))))
    | yes o ↦ read_whole Q m (λ p. eqb (code_of (P.rest p)) 0) (home_of home) row b i j (home_in home b Q in-home (omega (arith, four))) (omega arith) (omega arith)
        ∙ ap (λ z. get_or row (whole_cell m z i j) 0) o ∙ s.none i j (omega arith) (omega arith)
        ∙ sym (ap cap (kin-none (chart_of G P Q home w row) b i j (length G.rules) (λ r x y e. omega (arith, o, ap (home_of home) e, S.homed r (x, y)))))
  ]

  -- all rules seen to
  pub sown-begun : (row : List ℕ) (n : ℕ) → n ≡ length G.rules → Sown G P Q home m row n → Begun G P Q home w row
  sown-begun row n e s =
      let t = subst (Sown G P Q home m row) e s in
      record {
        counted = record {
          small = s.small;
          ones = s.ones;
          none = s.none;
          depth = 0;
          deep = omega arith;
          sound = sound row n s;
          sums = sums row t;
        };
        empty = blank row n s;
      }
