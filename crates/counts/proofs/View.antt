-- The work row as a chart: a store in an item's cell raises that item's count and changes no other. Assumes nothing.
use Prim.Native.Nat.{ℕ, zero, suc, ◌+◌, ◌*◌, ◌≤◌, ◌<◌}
use mathlib.Core.Path.{◌≡◌, refl, sym, ap, ap₂, ◌∙◌}
use mathlib.Core.Bool.{Bool, true, false, ◌&&◌}
use mathlib.Core.List.{List}
use native.Mathlib.Omega.{arith}
use native.Mathlib.Decide.{ℕ_discrete}
use lib.Dec.{eqb, ltb}
use lib.ListN.{length, get_or, set}
use lib.Seq.{get_or-set_same, get_or-set_other}
use borrow.Author.Tests.{ltb-true, lt-ltb}
use Rattle.grammar.specs.Basics.{choose}
use Rattle.grammar.proofs.Answers.{no_bool, and_both}
use Rattle.tree_laws.specs.Chart.{splits}
use Rattle.tree_laws.specs.Filling.{item_raised, whole_raised}
use Rattle.tree_laws.proofs.Fill.{raised_same, raised_other, risen-same, risen-other}
use Rattle.counts.specs.Counts.{item_cell, whole_cell, splits_at}
use Rattle.counts.specs.View.{within, view_of}
use Rattle.counts.proofs.Cells.{cells_apart, homes_apart}

-- what has a cell is in range
pub range : (Q m p i j : ℕ) → within Q m p i j ≡ true → (p < Q) × (i < m) × (j < m)
range Q m p i j e =
    let a = and_both (ltb p Q) (ltb i m && ltb j m) e in
    let b = and_both (ltb i m) (ltb j m) a.1 in
    (ltb-true p Q a.0, ltb-true i m b.0, ltb-true j m b.1)

module _ (Q m : ℕ) (ends : ℕ → Bool) (home : ℕ → ℕ) where
  module _ (row : List ℕ) (p i j v : ℕ) (inside : ends p ≡ false) (p_q : p < Q) (im : i < m) (jm : j < m) (fits : item_cell m p i j < length row)
      (homes : (b : ℕ) → ends (home b) ≡ true) where
    abbrev stored : List ℕ
    stored = set row (item_cell m p i j) v

    item_cases : (q k l : ℕ) (x y : Bool) → ends q ≡ x → within Q m q k l ≡ y → (view_of Q m ends home stored).item q k l ≡ (item_raised (view_of Q m ends home row) p i j v).item q k l
    unfolding view_of
    item_cases q k l true y e r =
        let a : (view_of Q m ends home stored).item q k l ≡ (view_of Q m ends home row).item q k l = rw e refl in
        a ∙ sym (raised_other (view_of Q m ends home row) p i j v q k l (λ a b c. no_bool (sym e ∙ ap ends a ∙ inside)))
    item_cases q k l false false e r =
        let a : (view_of Q m ends home stored).item q k l ≡ (view_of Q m ends home row).item q k l = rw (e, r) refl in
        a ∙ sym (raised_other (view_of Q m ends home row) p i j v q k l (λ a b c. no_bool (same_range a b c)))
      where
        same_range : q ≡ p → k ≡ i → l ≡ j → true ≡ false
        same_range a b c =
            let w : within Q m p i j ≡ true = rw (lt-ltb p Q p_q, lt-ltb i m im, lt-ltb j m jm) refl in
            sym w ∙ sym (ap (λ z. within Q m z i j) a) ∙ sym (ap (λ z. within Q m q z j) b) ∙ sym (ap (λ z. within Q m q k z) c) ∙ r
    item_cases q k l false true e r =
        let h = range Q m q k l r in
        let a : (view_of Q m ends home stored).item q k l ≡ get_or stored (item_cell m q k l) 0 = rw (e, r) refl in
        let o : (view_of Q m ends home row).item q k l ≡ get_or row (item_cell m q k l) 0 = rw (e, r) refl in
        a ∙ (elim (ℕ_discrete (item_cell m q k l) (item_cell m p i j)) [
          | yes c ↦
              let d = cells_apart m q k l p i j h.1 h.2 im jm c in
              (ap (λ z. get_or stored z 0) c ∙ get_or-set_same row (item_cell m p i j) v 0 fits)
              ∙ sym (ap₂ (λ a b. (item_raised (view_of Q m ends home row) p i j v).item a b l) d.0 d.1 ∙ ap (λ z. (item_raised (view_of Q m ends home row) p i j v).item p i z) d.2 ∙ raised_same (view_of Q m ends home row) p i j v)
          | no c ↦
              get_or-set_other row (item_cell m p i j) (item_cell m q k l) v 0 c
              ∙ sym (raised_other (view_of Q m ends home row) p i j v q k l (λ a b d. c (ap₂ (λ x y. item_cell m x y l) a b ∙ ap (λ z. item_cell m p i z) d)) ∙ o)
        ])

    whole_cases : (b k l : ℕ) (y : Bool) → within Q m (home b) k l ≡ y → (view_of Q m ends home stored).whole b k l ≡ (view_of Q m ends home row).whole b k l
    unfolding view_of
    whole_cases b k l false r = rw r refl
    whole_cases b k l true r =
        let h = range Q m (home b) k l r in
        rw r (get_or-set_other row (item_cell m p i j) (whole_cell m (home b) k l) v 0
        (λ c. homes_apart m p i j (home b) k l im jm h.1 h.2 (λ a. no_bool (sym (homes b) ∙ sym (ap ends a) ∙ inside)) (sym c)))

    -- a store in an item's cell is a rise of that item, and nothing else
    pub store_item : view_of Q m ends home stored ≡ item_raised (view_of Q m ends home row) p i j v
    unfolding item_raised
    store_item = λ t. record {
      item = λ q k l. item_cases q k l (ends q) (within Q m q k l) refl refl t;
      whole = λ b k l. whole_cases b k l (within Q m (home b) k l) refl t;
    }

  -- counts are read where they stand, those of ends off a plane that has 1 on its diagonal
  pub read_whole : (row : List ℕ) (b i j : ℕ) → home b < Q → i < m → j < m → (view_of Q m ends home row).whole b i j ≡ get_or row (whole_cell m (home b) i j) 0
  unfolding view_of
  read_whole row b i j h im jm = rw (lt-ltb (home b) Q h, lt-ltb i m im, lt-ltb j m jm) refl

  pub read_item : (row : List ℕ) (p i j : ℕ) → ends p ≡ false → p < Q → i < m → j < m → (view_of Q m ends home row).item p i j ≡ get_or row (item_cell m p i j) 0
  unfolding view_of
  read_item row p i j e h im jm = rw (e, lt-ltb p Q h, lt-ltb i m im, lt-ltb j m jm) refl

  pub read-end : (row : List ℕ) (p i j : ℕ) → ends p ≡ true → (view_of Q m ends home row).item p i j ≡ choose (eqb i j) 1 0
  unfolding view_of
  read-end row p i j e = rw e refl

  module _ (row : List ℕ) (b p z : ℕ) (h : home b < Q) (at : (i j : ℕ) → i < m → j < m → (view_of Q m ends home row).item p i j ≡ get_or row (item_cell m z i j) 0) where
    -- the splits that the code adds up are the chart's
    pub read-splits : (i j n : ℕ) → i + n ≤ m → j < m → splits (view_of Q m ends home row) b p i j n ≡ splits_at row m (home b) z i j n
    unfolding splits splits_at
    read-splits i j zero g l = refl
    read-splits i j (suc n) g l =
        ap₂ (λ x y. x + y) (read-splits i j n (omega arith) l)
        (ap₂ (λ x y. x * y) (read_whole row b i (i + n) h (omega arith) (omega arith)) (at (i + n) j (omega arith) l))

  module _ (row : List ℕ) (b i j v : ℕ) (bQ : home b < Q) (im : i < m) (jm : j < m) (fits : whole_cell m (home b) i j < length row)
      (homes : (a : ℕ) → ends (home a) ≡ true) (once : (a : ℕ) → home a ≡ home b → a ≡ b) where
    abbrev kept : List ℕ
    kept = set row (whole_cell m (home b) i j) v

    item_stays : (q k l : ℕ) (x y : Bool) → ends q ≡ x → within Q m q k l ≡ y → (view_of Q m ends home kept).item q k l ≡ (view_of Q m ends home row).item q k l
    unfolding view_of
    item_stays q k l true y e r = rw e refl
    item_stays q k l false false e r = rw (e, r) refl
    item_stays q k l false true e r =
        let h = range Q m q k l r in
        rw (e, r) (get_or-set_other row (whole_cell m (home b) i j) (item_cell m q k l) v 0
        (λ c. homes_apart m q k l (home b) i j h.1 h.2 im jm (λ a. no_bool (sym (homes b) ∙ sym (ap ends a) ∙ e)) c))

    whole_rises : (a k l : ℕ) (y : Bool) → within Q m (home a) k l ≡ y → (view_of Q m ends home kept).whole a k l ≡ (whole_raised (view_of Q m ends home row) b i j v).whole a k l
    unfolding view_of
    whole_rises a k l false r =
        let o : (view_of Q m ends home kept).whole a k l ≡ (view_of Q m ends home row).whole a k l = rw r refl in
        o ∙ sym (risen-other (view_of Q m ends home row) b i j v a k l (λ x y z. no_bool (same_range x y z)))
      where
        same_range : a ≡ b → k ≡ i → l ≡ j → true ≡ false
        same_range x y z =
            let w : within Q m (home b) i j ≡ true = rw (lt-ltb (home b) Q bQ, lt-ltb i m im, lt-ltb j m jm) refl in
            sym w ∙ sym (ap (λ z. within Q m (home z) i j) x) ∙ sym (ap (λ z. within Q m (home a) z j) y) ∙ sym (ap (λ t. within Q m (home a) k t) z) ∙ r
    whole_rises a k l true r =
        let h = range Q m (home a) k l r in
        let o : (view_of Q m ends home kept).whole a k l ≡ get_or kept (whole_cell m (home a) k l) 0 = rw r refl in
        let u : (view_of Q m ends home row).whole a k l ≡ get_or row (whole_cell m (home a) k l) 0 = rw r refl in
        o ∙ (elim (ℕ_discrete (whole_cell m (home a) k l) (whole_cell m (home b) i j)) [
          | yes c ↦
              let d = cells_apart m (home a) l k (home b) j i h.2 h.1 jm im c in
              let x = once a d.0 in
              (ap (λ z. get_or kept z 0) c ∙ get_or-set_same row (whole_cell m (home b) i j) v 0 fits)
              ∙ sym (ap₂ (λ x y. (whole_raised (view_of Q m ends home row) b i j v).whole x y l) x d.2 ∙ ap (λ z. (whole_raised (view_of Q m ends home row) b i j v).whole b i z) d.1 ∙ risen-same (view_of Q m ends home row) b i j v)
          | no c ↦
              get_or-set_other row (whole_cell m (home b) i j) (whole_cell m (home a) k l) v 0 c
              ∙ sym (risen-other (view_of Q m ends home row) b i j v a k l (λ x y z. c (ap₂ (λ p q. whole_cell m (home p) q l) x y ∙ ap (λ q. whole_cell m (home b) i q) z)) ∙ u)
        ])

    -- a store in a nonterminal's cell is a rise of that nonterminal, and nothing else
    pub store-whole : view_of Q m ends home kept ≡ whole_raised (view_of Q m ends home row) b i j v
    unfolding whole_raised
    store-whole = λ t. record {
      item = λ q k l. item_stays q k l (ends q) (within Q m q k l) refl refl t;
      whole = λ a k l. whole_rises a k l (within Q m (home a) k l) refl t;
    }
