-- A look at a state whose count rises, and that begins no rule: the marks and flags that are set keep what is known. Assumes nothing.
use Prim.Native.Nat.{ℕ, suc, ◌+◌, ◌-◌, ◌≤◌, ◌<◌}
use mathlib.Core.Path.{◌≡◌, sym, ap, subst, ◌∙◌}
use mathlib.Core.List.{List, ◌∷◌}
use mathlib.Core.Logic.{◌⊎◌, inl, inr}
use native.Mathlib.Omega.{arith}
use native.Mathlib.Decide.{ℕ_discrete}
use lib.Dec.{eqb}
use lib.ListN.{length, get_or, set, length-set}
use lib.Seq.{get_or-set_same, get_or-set_other}
use Rattle.grammar.specs.Basics.{choose}
use Rattle.grammar.specs.Limits.{limits}
use Rattle.grammar.specs.Grammar.{Grammar, IsRule, rule, Terminal}
use Rattle.grammar.specs.Tree.{AppliesRuleOf}
use Rattle.grammar.proofs.Derives.{apart, rule-listed}
use Rattle.tree_laws.specs.Spans.{AtLeast, Spans}
use Rattle.tree_laws.specs.Chart.{cap, Places, Chart, SoundTo, Sums, made}
use Rattle.tree_laws.specs.Filling.{item_raised, Looking}
use Rattle.tree_laws.proofs.Cap.{cap-most}
use Rattle.tree_laws.proofs.Looks.{look_item}
use Rattle.tree_laws.proofs.Rises.{made_sound, sound_rise, sums_item}
use Rattle.counts.specs.Counts.{item_cell, whole_cell}
use Rattle.counts.specs.View.{nonzeros}
use Rattle.counts.proofs.Cells.{nonzeros-more, nonzeros-keep, cells_apart}
use Rattle.counts.proofs.View.{store_item}
use Rattle.chart.specs.Rows.{home_of, made_at, Settles}
use Rattle.chart.specs.Filling.{code_of, chart_of, Working}
use Rattle.chart.proofs.Cells.{cell_fits}
use Rattle.chart.proofs.Reading.{some-code, end-code, inner, either, homes}
use Rattle.chart.proofs.Staying.{LookAt, drop_flag, set_flag, back, low, read_count, read-cap}

-- the state before q is no end, and what is made of its count is more than it has
pub record Rise {G : Grammar} {P : Places limits G} {Q : ℕ} {ahead lead next head home w row active flags : List ℕ} {q i j : ℕ}
    (X : LookAt G P Q ahead lead next head home w row active flags q i j) (v : ℕ) : Type 0 where
  pub code : ℕ
  pub after : List ℕ
  pub rest : P.rest (q - 1) ≡ code ∷ after
  pub exact : v ≡ cap (made_at row ahead home w q i j)
  pub more : get_or row (item_cell (length w + 1) (q - 1) i j) 0 < v

module _ {G : Grammar} {P : Places limits G} {Q : ℕ} {ahead lead next head home w row active flags : List ℕ} {q i j : ℕ}
    {X : LookAt G P Q ahead lead next head home w row active flags q i j} {v : ℕ} (R : Rise X v) where
  abbrev m : ℕ
  m = length w + 1

  abbrev p : ℕ
  p = q - 1

  kinds : (b r : ℕ) → AppliesRuleOf limits G b r → Terminal G.terminals b → ⊥
  kinds b r a t = apart limits G X.sheet.well_formed (omega arith) a t

  abbrev risen : List ℕ
  risen = set row (item_cell m p i j) v

  abbrev old : Chart
  old = chart_of G P Q home w row

  pub im : i < m
  im = omega (arith, X.span.rises, X.span.inside)

  pub p_q : p < Q
  p_q = omega (arith, X.inside)

  fits : item_cell m p i j < length row
  fits = cell_fits m Q p i j (length row) p_q im X.span.inside X.span.cells

  pub view : chart_of G P Q home w risen ≡ item_raised old p i j v
  view = store_item Q m (λ p. eqb (code_of (P.rest p)) 0) (home_of home) row p i j v (inner G P Q ahead lead home w X.sheet p R.code R.after R.rest) p_q im X.span.inside fits (homes G P Q ahead lead home w X.sheet)

  pub exact : cap (made limits G w old R.code p i j) ≡ v
  exact = ap cap (read-cap X R.code R.after R.rest) ∙ sym R.exact

  -- a plane other than p is as it was
  other : (z k n : ℕ) → k < m → n < m → (z ≡ p → ⊥) → get_or risen (item_cell m z k n) 0 ≡ get_or row (item_cell m z k n) 0
  other z k n hk hn f = get_or-set_other row (item_cell m p i j) (item_cell m z k n) v 0 (λ y. f (cells_apart m z k n p i j hk hn im X.span.inside y).0)

  -- all that is asked of the row but the sums
  pub record Sounded (r : List ℕ) (D : Chart) : Type 0 where
    pub small : (k : ℕ) → get_or r k 0 ≤ 2
    pub ones : (i j : ℕ) → i < m → j < m → get_or r (item_cell m 3 i j) 0 ≡ choose (eqb i j) 1 0
    pub none : (i j : ℕ) → i < m → j < m → get_or r (whole_cell m 0 i j) 0 ≡ 0
    pub depth : ℕ
    pub deep : depth ≤ nonzeros r
    pub sound : SoundTo limits G w P depth D

  pub sounded : Sounded risen (item_raised old p i j v)
  sounded =
      let d = X.working.counted.depth in
      let t = X.sheet.range p R.code R.after R.rest in
      let o = sound_rise limits G w P d old p i j v X.working.counted.sound X.span.rises (omega (arith, X.span.inside))
      (subst (λ z. AtLeast (suc d) z (λ f. Spans limits G w (P.rest p) f i j)) exact
      (made_sound limits G w P d old kinds X.working.counted.sound X.working.counted.sums p R.code i j R.after R.rest (X.sheet.symbol p R.code R.after R.rest).1 X.span.rises (omega (arith, X.span.inside)))) in
      record {
        small = λ k. elim (ℕ_discrete k (item_cell m p i j)) [
          | yes f ↦ omega (arith, ap (λ z. get_or risen z 0) f, get_or-set_same row (item_cell m p i j) v 0 fits, cap-most (made_at row ahead home w q i j), R.exact)
          | no f ↦ omega (arith, get_or-set_other row (item_cell m p i j) k v 0 f, X.working.counted.small k)
        ];
        ones = λ k n hk hn. other 3 k n hk hn (λ f. inside f) ∙ X.working.counted.ones k n hk hn;
        none = λ k n hk hn. other 0 n k hn hk (λ f. omega (arith, f, t)) ∙ X.working.counted.none k n hk hn;
        depth = o.0;
        deep = deep o.0 o.1.1 o.1.2 (elim (ℕ_discrete (get_or row (item_cell m p i j) 0) 0) [ yes f ↦ inl f | no f ↦ inr f ]);
        sound = o.1.0;
      }
    where
      inside : 3 ≡ p → ⊥
      inside f = omega (arith, end-code G P Q ahead lead home w X.sheet p (ap P.rest (sym f) ∙ X.sheet.ends), some-code G P Q ahead lead home w X.sheet p R.code R.after R.rest, (X.sheet.symbol p R.code R.after R.rest).0)

      deep : (n : ℕ) → (1 ≤ old.item p i j → n ≡ X.working.counted.depth) → n ≤ suc X.working.counted.depth → (get_or row (item_cell m p i j) 0 ≡ 0) ⊎ (get_or row (item_cell m p i j) 0 ≡ 0 → ⊥)
          → n ≤ nonzeros risen
      deep n u y (inl f) = omega (arith, X.working.counted.deep, nonzeros-more row (item_cell m p i j) v fits f (omega (arith, R.more)))
      deep n u y (inr f) = omega (arith, X.working.counted.deep, u (omega (arith, read_count X R.code R.after R.rest)), nonzeros-keep row (item_cell m p i j) v (omega (arith, R.more)))

  -- no rule begins at p
  pub looks_item : get_or lead p 0 ≡ 0 → Working G P Q home w risen (set active p 1) (set (set flags q 0) p 1) q i j
  looks_item z = record {
    counted = record {
      small = sounded.small;
      ones = sounded.ones;
      none = sounded.none;
      depth = sounded.depth;
      deep = sounded.deep;
      sound = subst (SoundTo limits G w P sounded.depth) (sym view) sounded.sound;
      sums = subst (Sums limits G w P) (sym view) (sums_item limits G w P old p i j v (λ r y f. no_lead r y f) X.working.counted.sums);
    };
    looking = subst (λ D. Looking limits G w P Q D (λ k. get_or (set active p 1) k 0) (λ k. get_or (set (set flags q 0) p 1) k 0) q i j) (sym view)
        (look_item limits G w P Q old (λ k. get_or active k 0) (λ k. get_or (set active p 1) k 0) (λ k. get_or flags k 0) (λ k. get_or (set (set flags q 0) p 1) k 0)
        p R.code v q q i j R.after X.working.looking (sym (back X)) X.span.rises R.rest (omega (arith, exact))
        (λ k f. set_flag active p k (omega (arith, X.inside, X.long)) f)
        (λ k f. drop_flag flags q k (set_flag (set flags q 0) p k (omega (arith, X.inside, X.long, length-set flags q 0)) f).0)
        (λ s y β u f o. (set_flag (set flags q 0) p (suc s) (omega (arith, X.inside, X.long, length-set flags q 0)) f).1 o)
        (λ k y f. get_or-set_other (set flags q 0) p k 1 0 (λ o. omega (arith, X.inside)) ∙ low X k y f));
  }
    where
      no_lead : (r : ℕ) → IsRule G r → P.first r ≡ p → ⊥
      no_lead r y f = omega (arith, z, ap (λ k. get_or lead k 0) f, (X.sheet.begins r y).1, (X.sheet.well_formed.lefts (rule limits G r) (rule-listed limits G r y)).0)

module _ {G : Grammar} {P : Places limits G} {Q : ℕ} {ahead lead next head home w row active flags : List ℕ} {q i j : ℕ}
    (X : LookAt G P Q ahead lead next head home w row active flags q i j) where
  -- a count that the code raised
  pub rise_of : (row' : List ℕ) (rise : ℕ) → Settles (made_at row ahead home w q i j) (item_cell (length w + 1) (q - 1) i j) rise row row' → 1 ≤ rise → (get_or ahead (q - 1) 0 ≡ 0 → ⊥)
      → Rise X (get_or row (item_cell (length w + 1) (q - 1) i j) 0 + rise)
  rise_of row' rise s o n = elim (either G P Q ahead lead home w X.sheet (q - 1)) [
    | inl e ↦ absurd (n (X.sheet.code (q - 1) (omega (arith, X.inside)) ∙ end-code G P Q ahead lead home w X.sheet (q - 1) e))
    | inr e ↦ record { code = e.0; after = e.1.0; rest = e.1.1; exact = s.exact o; more = omega arith }
  ]

  pub rises_item : (row' : List ℕ) (rise : ℕ) → Settles (made_at row ahead home w q i j) (item_cell (length w + 1) (q - 1) i j) rise row row' → 1 ≤ rise → (get_or ahead (q - 1) 0 ≡ 0 → ⊥)
      → get_or lead (q - 1) 0 ≡ 0 → Working G P Q home w row' (set active (q - 1) 1) (set (set flags q 0) (q - 1) 1) q i j
  rises_item row' rise s o n z =
      subst (λ r. Working G P Q home w r (set active (q - 1) 1) (set (set flags q 0) (q - 1) 1) q i j) (sym s.store) (looks_item (rise_of row' rise s o n) z)
