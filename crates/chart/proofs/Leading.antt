-- A look at a state whose count rises, and that begins a rule: its left side's count rises by as much, and every state before that
-- nonterminal is flagged. Assumes nothing.
use Prim.Native.Nat.{ℕ, suc, ◌+◌, ◌-◌, ◌≤◌, ◌<◌}
use mathlib.Core.Path.{◌≡◌, refl, sym, ap, ap₂, subst, ◌∙◌}
use mathlib.Core.List.{List, ◌∷◌}
use native.Mathlib.Omega.{arith}
use native.Mathlib.Decide.{ℕ_discrete}
use lib.Dec.{eqb}
use lib.ListN.{length, get_or, set, length-set}
use lib.Seq.{get_or-set_same, get_or-set_other}
use Rattle.grammar.specs.Limits.{limits}
use Rattle.grammar.specs.Grammar.{Grammar, IsRule, rule, start}
use Rattle.tree_laws.specs.Chart.{cap, Places, Chart, SoundTo, Sums}
use Rattle.tree_laws.specs.Filling.{item_raised, whole_raised, Looking}
use Rattle.tree_laws.proofs.Cap.{cap-one, cap-most}
use Rattle.tree_laws.proofs.Fill.{raised_whole}
use Rattle.tree_laws.proofs.Looks.{look_item, look-whole}
use Rattle.tree_laws.proofs.Rises.{sound_whole, sums_whole}
use Rattle.counts.specs.Counts.{item_cell, whole_cell}
use Rattle.counts.proofs.Cells.{nonzeros-keep, cells_apart}
use Rattle.counts.proofs.View.{read_whole, store-whole}
use Rattle.chart.specs.Rows.{home_of, made_at, Settles, Flagged}
use Rattle.chart.specs.Filling.{code_of, chart_of, Counted, Working}
use Rattle.chart.proofs.Cells.{cell_fits}
use Rattle.chart.proofs.MadeLaws.{home_in}
use Rattle.chart.proofs.Reading.{some-code, end-code, homes}
use Rattle.chart.proofs.Staying.{LookAt, drop_flag, set_flag, back, low, read_count}
use Rattle.chart.proofs.Rising.{Rise, im, p_q, view, exact, sounded, rise_of}

module _ {G : Grammar} {P : Places limits G} {Q : ℕ} {ahead lead next head home w row active flags : List ℕ} {q i j : ℕ}
    {X : LookAt G P Q ahead lead next head home w row active flags q i j} {v : ℕ} (R : Rise X v)
    (b rise : ℕ) (lb : get_or lead (q - 1) 0 ≡ b) (lo : 1 ≤ b) (up : get_or row (item_cell (length w + 1) (q - 1) i j) 0 + rise ≡ v) where
  abbrev m : ℕ
  m = length w + 1

  abbrev p : ℕ
  p = q - 1

  abbrev risen : List ℕ
  risen = set row (item_cell m p i j) v

  abbrev old : Chart
  old = chart_of G P Q home w row

  begun : (r : ℕ) × (IsRule G r × (P.first r ≡ p) × ((rule limits G r).left ≡ get_or lead p 0))
  begun = X.sheet.leads p (p_q R) (omega arith)

  abbrev hb : ℕ
  hb = home_of home b

  hb4 : 4 ≤ hb
  hb4 = subst (λ z. 4 ≤ home_of home z) (begun.1.2 ∙ lb) (X.sheet.homed begun.0 begun.1.0)

  hb_q : hb < Q
  hb_q = home_in home b Q X.wired.ready.homes (omega (arith, X.wired.ready.four))

  abbrev cell : ℕ
  cell = whole_cell m hb i j

  abbrev u : ℕ
  u = cap (get_or risen cell 0 + rise)

  abbrev both : List ℕ
  both = set risen cell u

  long : length risen ≡ length row
  long = length-set row (item_cell m p i j) v

  wfits : cell < length risen
  wfits = omega (arith, long, cell_fits m Q hb j i (length row) hb_q X.span.inside (im R) X.span.cells)

  count : get_or risen cell 0 ≡ old.whole b i j
  count =
      sym (read_whole Q m (λ p. eqb (code_of (P.rest p)) 0) (home_of home) risen b i j hb_q (im R) X.span.inside)
      ∙ ap (λ D. D.whole b i j) (view R) ∙ raised_whole old p i j v b i j

  view2 : chart_of G P Q home w both ≡ whole_raised (item_raised old p i j v) b i j u
  view2 =
      store-whole Q m (λ p. eqb (code_of (P.rest p)) 0) (home_of home) risen b i j u hb_q (im R) X.span.inside wfits (homes G P Q ahead lead home w X.sheet) (λ a e. X.sheet.home_once a b (omega (arith, hb4)) e)
      ∙ ap (λ D. whole_raised D b i j u) (view R)

  more : cap (old.whole (rule limits G begun.0).left i j + (v - old.item (P.first begun.0) i j)) ≡ u
  more =
      let f : rise ≡ v - old.item (P.first begun.0) i j =
      omega (arith, read_count X R.code R.after R.rest, ap (λ z. old.item z i j) begun.1.1) in
      sym (ap₂ (λ y z. cap (y + z)) (count ∙ ap (λ z. old.whole z i j) (sym (begun.1.2 ∙ lb))) f)

  sums2 : Sums limits G w P (whole_raised (item_raised old p i j v) b i j u)
  sums2 =
      subst (λ z. Sums limits G w P (whole_raised (item_raised old z i j v) b i j u)) begun.1.1
      (subst (λ z. Sums limits G w P (whole_raised (item_raised old (P.first begun.0) i j v) z i j u)) (begun.1.2 ∙ lb)
      (subst (λ z. Sums limits G w P (whole_raised (item_raised old (P.first begun.0) i j v) (rule limits G begun.0).left i j z)) more
      (sums_whole limits G w P X.sheet.once old begun.0 i j v begun.1.0 X.span.rises (omega (arith, X.span.inside))
      (omega (arith, read_count X R.code R.after R.rest, ap (λ z. old.item z i j) begun.1.1)) X.working.counted.sums)))

  far : (z k n : ℕ) → k < m → n < m → z < 4 → get_or both (item_cell m z k n) 0 ≡ get_or risen (item_cell m z k n) 0
  far z k n hk hn f = get_or-set_other risen cell (item_cell m z k n) u 0 (λ y. omega (arith, hb4, (cells_apart m z k n hb j i hk hn X.span.inside (im R) y).0))

  counted2 : Counted G P Q home w both
  counted2 = record {
    small = λ k. elim (ℕ_discrete k cell) [
      | yes f ↦ omega (arith, ap (λ z. get_or both z 0) f, get_or-set_same risen cell u 0 wfits, cap-most (get_or risen cell 0 + rise))
      | no f ↦ omega (arith, get_or-set_other risen cell k u 0 f, (sounded R).small k)
    ];
    ones = λ k n hk hn. far 3 k n hk hn (omega arith) ∙ (sounded R).ones k n hk hn;
    none = λ k n hk hn. far 0 n k hn hk (omega arith) ∙ (sounded R).none k n hk hn;
    depth = (sounded R).depth;
    deep = omega (arith, (sounded R).deep, nonzeros-keep risen cell u (cap-one (get_or risen cell 0 + rise) (omega arith)));
    sound = subst (SoundTo limits G w P (sounded R).depth) (sym view2) (sound_whole limits G w P (sounded R).depth (item_raised old p i j v) b i j u (sounded R).sound);
    sums = subst (Sums limits G w P) (sym view2) sums2;
  }

  pub looks_whole : (flags' : List ℕ) (top t : ℕ) → Flagged ahead Q (b - start limits) top (set flags q 0) flags' → q ≤ t → top + 2 ≤ t
      → Working G P Q home w both (set active p 1) flags' t i j
  looks_whole flags' top t F x1 x2 = record {
    counted = counted2;
    looking = subst (λ D. Looking limits G w P Q D (λ k. get_or (set active p 1) k 0) (λ k. get_or flags' k 0) t i j) (sym view2)
        (look-whole limits G w P Q (item_raised old p i j v) (λ k. get_or (set active p 1) k 0) (λ k. get_or (set flags q 0) k 0) (λ k. get_or flags' k 0) b u q t i j
        (look_item limits G w P Q old (λ k. get_or active k 0) (λ k. get_or (set active p 1) k 0) (λ k. get_or flags k 0) (λ k. get_or (set flags q 0) k 0)
        p R.code v q q i j R.after X.working.looking (sym (back X)) X.span.rises R.rest (omega (arith, exact R))
        (λ k f. set_flag active p k (omega (arith, X.inside, X.long)) f)
        (λ k f. drop_flag flags q k f)
        (λ s y β f g o. nobody s y β f o)
        (low X))
        X.span.rises
        (λ k f. F.kept k f)
        (λ s β f g. seen s β f g)
        (λ k y z. F.above k (omega arith) ∙ low X k (omega arith) z));
  }
    where
      nobody : (s y : ℕ) (β : List ℕ) → P.rest s ≡ y ∷ β → suc s ≡ p → ⊥
      nobody s y β f o =
          let n = X.sheet.before begun.0 s begun.1.0 (begun.1.1 ∙ sym o) in
          omega (arith, end-code G P Q ahead lead home w X.sheet s n, some-code G P Q ahead lead home w X.sheet s y β f, (X.sheet.symbol s y β f).0)

      seen : (s : ℕ) (β : List ℕ) → P.rest s ≡ b ∷ β → get_or flags' (suc s) 0 ≡ 0 → ⊥
      seen s β f g =
          let r = X.sheet.range s b β f in
          let d : get_or ahead s 0 ≡ start limits + (b - start limits) =
          omega (arith, X.sheet.code s (omega (arith, r)), some-code G P Q ahead lead home w X.sheet s b β f, X.wired.lead_low p (p_q R) (omega arith)) in
          let n : suc s ≡ s + 1 = omega arith in
          omega (arith, F.all s (omega (arith, r)) d, g, ap (λ k. get_or flags' k 0) n)

module _ {G : Grammar} {P : Places limits G} {Q : ℕ} {ahead lead next head home w row active flags : List ℕ} {q i j : ℕ}
    (X : LookAt G P Q ahead lead next head home w row active flags q i j) where
  -- the same from what the code knows
  pub rises_whole : (row' row'' : List ℕ) (rise hb : ℕ) → Settles (made_at row ahead home w q i j) (item_cell (length w + 1) (q - 1) i j) rise row row' → 1 ≤ rise
      → (get_or ahead (q - 1) 0 ≡ 0 → ⊥) → (get_or lead (q - 1) 0 ≡ 0 → ⊥) → hb ≡ home_of home (get_or lead (q - 1) 0)
      → row'' ≡ set row' (whole_cell (length w + 1) hb i j) (cap (get_or row' (whole_cell (length w + 1) hb i j) 0 + rise))
      → (flags' : List ℕ) (c top t : ℕ) → c ≡ get_or lead (q - 1) 0 - start limits → Flagged ahead Q c top (set flags q 0) flags' → q ≤ t → top + 2 ≤ t
      → Working G P Q home w row'' (set active (q - 1) 1) flags' t i j
  rises_whole row' row'' rise hb s o n z y d flags' c top t k F x1 x2 =
      subst (λ r. Working G P Q home w r (set active (q - 1) 1) flags' t i j)
      (sym (d ∙ ap₂ (λ r b. set r (whole_cell (length w + 1) b i j) (cap (get_or r (whole_cell (length w + 1) b i j) 0 + rise))) s.store y))
      (looks_whole (rise_of X row' rise s o n) (get_or lead (q - 1) 0) rise refl (omega arith) refl
      flags' top t (subst (λ c. Flagged ahead Q c top (set flags q 0) flags') k F) x1 x2)
