-- What the code reads off the work row is what the chart says. Assumes nothing.
use Prim.Native.Nat.{ℕ, suc, ◌+◌, ◌-◌, ◌≤◌, ◌<◌}
use mathlib.Core.Path.{◌≡◌, refl, sym, ap, ◌∙◌}
use mathlib.Core.Bool.{Bool, true, false, ◌&&◌}
use mathlib.Core.List.{List, [], ◌∷◌}
use mathlib.Core.Logic.{◌⊎◌, inl, inr}
use native.Mathlib.Omega.{arith}
use lib.Dec.{eqb, ltb, leb}
use lib.ListN.{length, get_or}
use borrow.Author.Tests.{eqb-true, eq-eqb, ne_eqb, ltb-true}
use Rattle.grammar.specs.Basics.{choose}
use Rattle.grammar.specs.Limits.{limits}
use Rattle.grammar.specs.Grammar.{Grammar, start}
use Rattle.grammar.proofs.Answers.{and_both}
use Rattle.tree_laws.specs.Chart.{Places, splits, made}
use Rattle.counts.specs.Counts.{item_cell, splits_at}
use Rattle.counts.proofs.View.{read_item, read-end, read-splits}
use Rattle.chart.specs.Rows.{plane_of, home_of, made_at}
use Rattle.chart.specs.Filling.{code_of, Sheet, chart_of, Counted}
use Rattle.chart.proofs.MadeLaws.{home_in}

module _ (G : Grammar) (P : Places limits G) (Q : ℕ) (ahead lead home w : List ℕ) (S : Sheet G P Q ahead lead home) where
  -- an end is where the code ahead is 0
  pub no_code : (p : ℕ) → code_of (P.rest p) ≡ 0 → P.rest p ≡ []
  unfolding code_of
  no_code p e = go (P.rest p) refl e
    where
      go : (α : List ℕ) → P.rest p ≡ α → code_of α ≡ 0 → P.rest p ≡ []
      go [] q z = q
      go (x ∷ α) q z = absurd (omega (arith, (S.symbol p x α q).0))

  pub some-code : (p x : ℕ) (α : List ℕ) → P.rest p ≡ x ∷ α → code_of (P.rest p) ≡ x
  unfolding code_of
  some-code p x α e = ap code_of e

  pub end-code : (p : ℕ) → P.rest p ≡ [] → code_of (P.rest p) ≡ 0
  unfolding code_of
  end-code p e = ap code_of e

  pub inner : (p x : ℕ) (α : List ℕ) → P.rest p ≡ x ∷ α → eqb (code_of (P.rest p)) 0 ≡ false
  inner p x α e = ne_eqb (code_of (P.rest p)) 0 (λ z. omega (arith, some-code p x α e, (S.symbol p x α e).0))

  pub outer : (p : ℕ) → P.rest p ≡ [] → eqb (code_of (P.rest p)) 0 ≡ true
  outer p e = eq-eqb (code_of (P.rest p)) 0 (end-code p e)

  pub either : (p : ℕ) → (P.rest p ≡ []) ⊎ ((x : ℕ) × ((α : List ℕ) × (P.rest p ≡ x ∷ α)))
  either p = go (P.rest p) refl
    where
      go : (α : List ℕ) → P.rest p ≡ α → (P.rest p ≡ []) ⊎ ((x : ℕ) × ((α : List ℕ) × (P.rest p ≡ x ∷ α)))
      go [] q = inl q
      go (x ∷ α) q = inr (x, (α, q))

  pub homes : (b : ℕ) → eqb (code_of (P.rest (home_of home b))) 0 ≡ true
  homes b = outer (home_of home b) (S.home_end b)

  module _ (row : List ℕ) (C : Counted G P Q home w row) (in-home : (c : ℕ) → get_or home c 0 < Q) where
    abbrev m : ℕ
    m = length w + 1

    -- a state's counts stand in its plane
    pub read_plane : (q i j : ℕ) → q < Q → i < m → j < m → (chart_of G P Q home w row).item q i j ≡ get_or row (item_cell m (plane_of ahead q) i j) 0
    unfolding plane_of
    read_plane q i j h a b = go (eqb (get_or ahead q 0) 0) refl
      where
        go : (t : Bool) → eqb (get_or ahead q 0) 0 ≡ t → (chart_of G P Q home w row).item q i j ≡ get_or row (item_cell m (choose t 3 q) i j) 0
        go true e =
            let z : code_of (P.rest q) ≡ 0 = sym (S.code q h) ∙ eqb-true (get_or ahead q 0) 0 e in
            read-end Q m (λ p. eqb (code_of (P.rest p)) 0) (home_of home) row q i j (eq-eqb (code_of (P.rest q)) 0 z) ∙ sym (C.ones i j a b)
        go false e = read_item Q m (λ p. eqb (code_of (P.rest p)) 0) (home_of home) row q i j (ap (λ z. eqb z 0) (sym (S.code q h)) ∙ e) h a b

    -- what the code makes of a count is what the chart makes of it
    pub read_made : (p x i j : ℕ) (α : List ℕ) → P.rest p ≡ x ∷ α → i ≤ j → j < m
        → made limits G w (chart_of G P Q home w row) x p i j ≡ made_at row ahead home w (suc p) i j
    unfolding made made_at
    read_made p x i j α e h g =
        go (leb (start limits) x) (ltb i j && eqb (get_or w i 0) x) refl
        ∙ ap (λ k. choose (leb (start limits) k) (splits_at row (length w + 1) (home_of home k) (plane_of ahead (suc p)) i j (suc (j - i)))
        (choose (ltb i j && eqb (get_or w i 0) k) (get_or row (item_cell (length w + 1) (plane_of ahead (suc p)) (i + 1) j) 0) 0)) same
      where
        r : (2 ≤ p) × (suc p < Q)
        r = S.range p x α e

        back : p ≡ suc p - 1
        back = omega arith

        same : x ≡ get_or ahead (suc p - 1) 0
        same = sym (S.code p (omega (arith, r)) ∙ some-code p x α e) ∙ ap (λ k. get_or ahead k 0) back

        next : suc i ≡ i + 1
        next = omega arith

        go : (t u : Bool) → (ltb i j && eqb (get_or w i 0) x) ≡ u
            → choose t (splits (chart_of G P Q home w row) x (suc p) i j (suc (j - i))) (choose u ((chart_of G P Q home w row).item (suc p) (suc i) j) 0)
            ≡ choose t (splits_at row (length w + 1) (home_of home x) (plane_of ahead (suc p)) i j (suc (j - i))) (choose u (get_or row (item_cell (length w + 1) (plane_of ahead (suc p)) (i + 1) j) 0) 0)
        go true u v =
            read-splits Q (length w + 1) (λ p. eqb (code_of (P.rest p)) 0) (home_of home) row x (suc p) (plane_of ahead (suc p)) (home_in home x Q in-home (omega (arith, r)))
            (λ i j a b. read_plane (suc p) i j r.1 a b) i j (suc (j - i)) (omega arith) g
        go false true v =
            let z = ltb-true i j (and_both (ltb i j) (eqb (get_or w i 0) x) v).0 in
            read_plane (suc p) (suc i) j r.1 (omega arith) g ∙ ap (λ k. get_or row (item_cell (length w + 1) (plane_of ahead (suc p)) k j) 0) next
        go false false v = refl
