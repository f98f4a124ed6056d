-- From the rows of a grammar and a row of 0 to its complete chart. Assumes nothing.
use Prim.Native.Nat.{ℕ, zero, suc, ◌+◌, ◌≤◌, ◌<◌}
use mathlib.Core.Path.{◌≡◌, refl, ap₂, ◌∙◌}
use mathlib.Core.List.{List}
use native.Mathlib.Omega.{arith}
use lib.ListN.{get_or, replicate}
use Rattle.grammar.specs.Limits.{limits}
use Rattle.grammar.specs.Grammar.{Grammar, rule, start}
use Rattle.grammar.specs.declared.CheckedGrammar.{CheckedGrammar}
use Rattle.grammar.proofs.Derives.{rule-listed}
use Rattle.tree_laws.specs.Chart.{Places}
use Rattle.chart.specs.Filling.{Sheet, Begun, Complete}
use Rattle.chart_start.specs.Sown.{Columned}
use Rattle.chart_rows.specs.Wiring.{Zeros}
use Rattle.chart_rows.specs.Preparing.{Showing}
use Rattle.tree_walk.specs.Charted.{rows, Charted}

-- rows that are the same one by one
pub same_rows : {Q R : ℕ} {a b l m n o h k w v : List ℕ} → Q ≡ R → a ≡ b → l ≡ m → n ≡ o → h ≡ k → w ≡ v
    → rows Q a l n h w ≡ rows R b m o k v
same_rows {R = R} {b = b} {l} {m} {n} {o} {h} {k} {w} Q a e f g i =
    ap₂ (λ Q a. rows Q a l n h w) Q a ∙ ap₂ (λ l n. rows R b l n h w) e f ∙ ap₂ (λ h w. rows R b m o h w) g i

pub zeros : (n : ℕ) → Zeros (replicate n 0)
zeros zero k = refl
zeros (suc n) zero = refl
zeros (suc n) (suc k) = zeros n k

module _ (G : Grammar) (g : CheckedGrammar) (ahead number lead next head home : List ℕ) (S : Showing G g ahead number lead next head home) where
  -- what the chart's start asks of the columns
  pub sow_asks : (g.count ≤ limits.max_rules) × ((r : ℕ) → r < g.count → (start limits ≤ get_or g.lefts r 0) × (get_or g.lefts r 0 < start limits + limits.max_nonterminals))
  sow_asks = (
    omega (arith, S.columned.all, S.sheet.well_formed.count),
    λ r h.
        let i = S.sheet.well_formed.lefts (rule limits G (suc r)) (rule-listed limits G (suc r) (omega arith, omega (arith, S.columned.all))) in
        (omega (arith, S.columned.left r h, i.0), omega (arith, S.columned.left r h, i.1, S.sheet.well_formed.nonterminals.1)),
  )

  -- the chart that is begun and filled
  pub charted_of : (w row sown filled : List ℕ) → Zeros row
      → ((G : Grammar) (P : Places limits G) → Sheet G P g.states ahead lead home → Columned G g.count g.lefts g.lengths → Zeros row → Begun G P g.states home w sown)
      → ((G : Grammar) (P : Places limits G) → Sheet G P g.states ahead lead home → Begun G P g.states home w sown → Complete G P g.states home w filled)
      → Charted G S.places (rows g.states ahead lead number home w) filled
  charted_of w row sown filled z a b = record {
    ready = S.wired.ready;
    sheet = S.sheet;
    numbers = S.numbers;
    complete = b G S.places S.sheet (a G S.places S.sheet S.columned z);
  }
