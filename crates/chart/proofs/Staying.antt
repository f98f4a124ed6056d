-- A look at a state whose count stays keeps what is known of the work row, the marks and the flags. Assumes nothing.
use Prim.Native.Nat.{ℕ, suc, ◌+◌, ◌-◌, ◌≤◌, ◌<◌}
use mathlib.Core.Path.{◌≡◌, sym, ap, subst, ◌∙◌}
use mathlib.Core.List.{List, ◌∷◌}
use mathlib.Core.Logic.{◌⊎◌, inl, inr}
use native.Mathlib.Omega.{arith}
use native.Mathlib.Decide.{ℕ_discrete}
use lib.Dec.{eqb}
use lib.ListN.{length, get_or, set}
use lib.Seq.{get_or-set_same, get_or-set_other}
use Rattle.grammar.specs.Limits.{limits}
use Rattle.grammar.specs.Grammar.{Grammar}
use Rattle.tree_laws.specs.Chart.{cap, Places, made, Settled}
use Rattle.tree_laws.proofs.Looks.{look-stays}
use Rattle.counts.specs.Counts.{item_cell}
use Rattle.counts.proofs.Laws.{set_same}
use Rattle.counts.proofs.View.{read_item}
use Rattle.chart.specs.Rows.{home_of, made_at, Wired, Span, Settles}
use Rattle.chart.specs.Filling.{code_of, Sheet, chart_of, Working}
use Rattle.chart.proofs.Reading.{some-code, inner, read_made}

-- a look at the state before q: the rows, the span, and what is known of the work row, the marks and the flags
pub record LookAt (G : Grammar) (P : Places limits G) (Q : ℕ) (ahead lead next head home w row active flags : List ℕ) (q i j : ℕ) : Type 0 where
  pub sheet : Sheet G P Q ahead lead home
  pub wired : Wired Q ahead lead next head home
  pub span : Span row Q (length w + 1) i j
  pub inside : (1 ≤ q) × (q < Q)
  pub long : (Q ≤ length active) × (Q ≤ length flags)
  pub working : Working G P Q home w row active flags (suc q) i j

-- a flag dropped, a flag set
pub drop_flag : (l : List ℕ) (q h : ℕ) → get_or (set l q 0) h 0 ≡ 0 → (h ≡ q) ⊎ (get_or l h 0 ≡ 0)
drop_flag l q h e = elim (ℕ_discrete h q) [ yes f ↦ inl f | no f ↦ inr (sym (get_or-set_other l q h 0 0 f) ∙ e) ]

pub set_flag : (l : List ℕ) (q h : ℕ) → q < length l → get_or (set l q 1) h 0 ≡ 0 → (get_or l h 0 ≡ 0) × (h ≡ q → ⊥)
set_flag l q h g e = elim (ℕ_discrete h q) [
  | yes f ↦ absurd (omega (arith, e, ap (λ z. get_or (set l q 1) z 0) f, get_or-set_same l q 1 0 g))
  | no f ↦ (sym (get_or-set_other l q h 1 0 f) ∙ e, f)
]

module _ {G : Grammar} {P : Places limits G} {Q : ℕ} {ahead lead next head home w row active flags : List ℕ} {q i j : ℕ}
    (X : LookAt G P Q ahead lead next head home w row active flags q i j) where
  abbrev m : ℕ
  m = length w + 1

  abbrev p : ℕ
  p = q - 1

  pub back : suc p ≡ q
  back = omega (arith, X.inside)

  -- where the flag is dropped, no flag from q on is set
  pub low : (k : ℕ) → q ≤ k → k < Q → get_or (set flags q 0) k 0 ≡ 0
  low k x y = elim (ℕ_discrete k q) [
    | yes f ↦ ap (λ z. get_or (set flags q 0) z 0) f ∙ get_or-set_same flags q 0 0 (omega (arith, X.inside, X.long))
    | no f ↦ get_or-set_other flags q k 0 0 f ∙ X.working.looking.high k (omega arith) y
  ]

  -- nothing rises
  stays : ((x : ℕ) (α : List ℕ) → P.rest p ≡ x ∷ α → Settled limits G w (chart_of G P Q home w row) x p i j) → Working G P Q home w row active (set flags q 0) q i j
  stays s = record {
    counted = X.working.counted;
    looking = look-stays limits G w P Q (chart_of G P Q home w row) (λ z. get_or active z 0) (λ z. get_or flags z 0) (λ z. get_or (set flags q 0) z 0) q i j X.working.looking
        (λ k e. drop_flag flags q k e) low
        (λ s' x α e g. let t : s' ≡ p = omega (arith, back) in
        subst (λ z. Settled limits G w (chart_of G P Q home w row) x z i j) (sym t) (s x α (sym (ap P.rest t) ∙ e)));
  }

  -- at an end
  pub looks_end : get_or ahead p 0 ≡ 0 → Working G P Q home w row active (set flags q 0) q i j
  looks_end e = stays (λ x α f. absurd (omega (arith, e, X.sheet.code p (omega (arith, X.inside)), some-code G P Q ahead lead home w X.sheet p x α f, (X.sheet.symbol p x α f).0)))

  -- where the count is what is made of it
  pub read_count : (x : ℕ) (α : List ℕ) → P.rest p ≡ x ∷ α → (chart_of G P Q home w row).item p i j ≡ get_or row (item_cell m p i j) 0
  read_count x α e =
      read_item Q m (λ p. eqb (code_of (P.rest p)) 0) (home_of home) row p i j (inner G P Q ahead lead home w X.sheet p x α e) (omega (arith, X.inside)) (omega (arith, X.span.rises, X.span.inside)) X.span.inside

  pub read-cap : (x : ℕ) (α : List ℕ) → P.rest p ≡ x ∷ α → made limits G w (chart_of G P Q home w row) x p i j ≡ made_at row ahead home w q i j
  read-cap x α e = read_made G P Q ahead lead home w X.sheet row X.working.counted X.wired.ready.homes p x i j α e X.span.rises X.span.inside ∙ ap (λ z. made_at row ahead home w z i j) back

  pub looks_none : (row' : List ℕ) (rise : ℕ) → Settles (made_at row ahead home w q i j) (item_cell m p i j) rise row row' → rise ≡ 0 → Working G P Q home w row' active (set flags q 0) q i j
  looks_none row' rise s e =
      let z : get_or row (item_cell m p i j) 0 + rise ≡ get_or row (item_cell m p i j) 0 = omega arith in
      let same : row' ≡ row = s.store ∙ ap (set row (item_cell m p i j)) z ∙ set_same row (item_cell m p i j) in
      subst (λ r. Working G P Q home w r active (set flags q 0) q i j) (sym same)
      (stays (λ x α f. omega (arith, s.enough, read_count x α f, ap cap (read-cap x α f))))
