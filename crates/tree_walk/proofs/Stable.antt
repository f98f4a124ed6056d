-- A complete chart is stable, so its count tells none, one or several; and a sum that is not 0 has a rule. Assumes nothing.
use Prim.Native.Nat.{ℕ, zero, suc, ◌+◌, ◌≤◌}
use mathlib.Core.Path.{◌≡◌, refl, ap, ◌∙◌}
use mathlib.Core.Bool.{Bool, true, false}
use mathlib.Core.List.{List, []}
use native.Mathlib.Omega.{arith}
use lib.Dec.{eqb}
use borrow.Author.Tests.{eq-eqb, eqb-true}
use Rattle.grammar.specs.Basics.{choose}
use Rattle.grammar.specs.Limits.{limits}
use Rattle.grammar.specs.Grammar.{Grammar, rule, start, Terminal}
use Rattle.grammar.specs.Tree.{AppliesRuleOf}
use Rattle.grammar.proofs.Derives.{apart, rule-listed}
use Rattle.tree_laws.specs.Chart.{Places, Chart, kin, Stable}
use Rattle.tree_laws.proofs.Settled.{settled_stable}
use Rattle.counts.proofs.View.{read-end}
use Rattle.chart.specs.Rows.{home_of}
use Rattle.chart.specs.Filling.{code_of, chart_of}
use Rattle.chart.proofs.Reading.{outer}
use Rattle.tree_walk.specs.Charted.{Rows, width, Charted}

module _ (G : Grammar) (P : Places limits G) (R : Rows) (counts : List ℕ) (X : Charted G P R counts) where
  abbrev C : Chart
  C = chart_of G P R.states R.home R.sentence counts

  -- left sides are no terminals
  pub kinds : (b r : ℕ) → AppliesRuleOf limits G b r → Terminal G.terminals b → ⊥
  kinds b r a t = apart limits G X.sheet.well_formed (omega arith) a t

  high : (b r : ℕ) → AppliesRuleOf limits G b r → start limits ≤ b
  high b r a = omega (arith, (X.sheet.well_formed.lefts (rule limits G r) (rule-listed limits G r a.0)).0, a.1)

  pub stable : Stable limits G R.sentence P C
  stable =
      settled_stable limits G R.sentence P (λ a t. omega (arith, t.1, X.sheet.well_formed.terminals)) high C X.complete.counted.sums
      (λ p i e h. omega (arith, one p i e)) X.complete.settled
    where
      one : (p i : ℕ) → P.rest p ≡ [] → C.item p i i ≡ 1
      one p i e =
          read-end R.states (width R) (λ p. eqb (code_of (P.rest p)) 0) (home_of R.home) counts p i i
          (outer G P R.states R.ahead R.lead R.home R.sentence X.sheet p e)
          ∙ ap (λ t. choose t 1 0) (eq-eqb i i refl)

module _ (G : Grammar) (P : Places limits G) (D : Chart) (b i j : ℕ) where
  -- one of the first n rules is of b and has a count
  abbrev pub Some : ℕ → Type 0
  Some n = (r : ℕ) × ((1 ≤ r) × (r ≤ n) × ((rule limits G r).left ≡ b) × (1 ≤ D.item (P.first r) i j))

  pub kin-some : (n : ℕ) → 1 ≤ kin limits G P D b i j n → Some n
  unfolding kin
  kin-some zero h = absurd (omega arith)
  kin-some (suc n) h = go (eqb (rule limits G (suc n)).left b) refl (D.item (P.first (suc n)) i j) refl h (λ g. kin-some n g)
    where
      later : Some n → Some (suc n)
      later x = (x.0, (x.1.0, omega (arith, x.1.1), x.1.2, x.1.3))

      go : (t : Bool) → eqb (rule limits G (suc n)).left b ≡ t → (v : ℕ) → D.item (P.first (suc n)) i j ≡ v
          → 1 ≤ kin limits G P D b i j n + choose t v 0 → (1 ≤ kin limits G P D b i j n → Some n) → Some (suc n)
      go false e v f g y = later (y (omega arith))
      go true e zero f g y = later (y (omega arith))
      go true e (suc v) f g y = (suc n, (omega arith, omega arith, eqb-true (rule limits G (suc n)).left b e, omega arith))
