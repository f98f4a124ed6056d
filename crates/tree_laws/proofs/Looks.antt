-- A look raises a count to what the others make of it: what is done stays done, and only places before what rose are to be looked at
-- again. Assumes nothing.
use Prim.Native.Nat.{ℕ, suc, ◌≤◌, ◌<◌}
use mathlib.Core.Path.{◌≡◌, sym, ap, subst, ◌∙◌}
use mathlib.Core.Logic.{◌⊎◌, inl, inr}
use mathlib.Core.List.{List, [], ◌∷◌}
use native.Mathlib.Omega.{arith}
use native.Mathlib.Decide.{ℕ_discrete}
use Rattle.grammar.specs.Limits.{Limits}
use Rattle.grammar.specs.Grammar.{Grammar}
use Rattle.tree_laws.specs.Chart.{cap, Places, Chart, made, Settled}
use Rattle.tree_laws.specs.Filling.{item_raised, whole_raised, Done, Past, Column, Looking}
use Rattle.tree_laws.proofs.Fill.{raised_same, raised_other, raised_whole, risen-other, risen_item}
use Rattle.tree_laws.proofs.Settled.{made-same, none_made}

module _ (L : Limits) (G : Grammar) (w : List ℕ) (P : Places L G) (Q : ℕ) where
  -- counts outside the span (i, j) as they were: what is done stays done
  past_keeps : (C D : Chart) (i j : ℕ) → ((p k l : ℕ) → (k ≡ i → l ≡ j → ⊥) → D.item p k l ≡ C.item p k l)
      → ((b k l : ℕ) → (k ≡ i → l ≡ j → ⊥) → D.whole b k l ≡ C.whole b k l) → Past L G w P Q C (suc i) j → Past L G w P Q D (suc i) j
  past_keeps C D i j a b y = record {
    settled = λ p x k l α e g n d.
        subst (λ z. cap z ≤ D.item p k l) (sym (made-same L G w C D x p k l g (λ h u v. a (suc p) h l (off_item h k l u d)) (λ h u v. b x k h (off_whole h k l v d))))
        (subst (λ z. cap (made L G w C x p k l) ≤ z) (sym (a p k l (off_item k k l (omega arith) d))) (y.settled p x k l α e g n d));
    fresh = λ p x k l α e h. a p k l (λ u v. omega arith) ∙ y.fresh p x k l α e h;
  }
    where
      off_item : (h k l : ℕ) → k ≤ h → Done k l (suc i) j → h ≡ i → l ≡ j → ⊥
      off_item h k l u (inl d) e f = omega arith
      off_item h k l u (inr d) e f = omega arith

      off_whole : (h k l : ℕ) → h ≤ l → Done k l (suc i) j → k ≡ i → h ≡ j → ⊥
      off_whole h k l v (inl d) e f = omega arith
      off_whole h k l v (inr d) e f = omega arith

  -- nothing rises: one flag less
  pub look-stays : (C : Chart) (A F F' : ℕ → ℕ) (q i j : ℕ) → Looking L G w P Q C A F (suc q) i j → ((h : ℕ) → F' h ≡ 0 → (h ≡ q) ⊎ (F h ≡ 0))
      → ((h : ℕ) → q ≤ h → h < Q → F' h ≡ 0)
      → ((p x : ℕ) (α : List ℕ) → P.rest p ≡ x ∷ α → suc p ≡ q → Settled L G w C x p i j) → Looking L G w P Q C A F' q i j
  look-stays C A F F' q i j y f g s = record {
    past = y.past;
    column = y.column;
    quiet = λ p x α e z. elim (f (suc p) z) [ inl h ↦ s p x α e h | inr h ↦ y.quiet p x α e h ];
    high = g;
  }

  -- an item rises to what is made of it: a place that has it next is no place, or is flagged
  pub look_item : (C : Chart) (A A' F F' : ℕ → ℕ) (p x v q r i j : ℕ) (α : List ℕ) → Looking L G w P Q C A F (suc q) i j → q ≡ suc p → i ≤ j → P.rest p ≡ x ∷ α
      → cap (made L G w C x p i j) ≤ v
      → ((h : ℕ) → A' h ≡ 0 → (A h ≡ 0) × (h ≡ p → ⊥))
      → ((h : ℕ) → F' h ≡ 0 → (h ≡ q) ⊎ (F h ≡ 0))
      → ((s y : ℕ) (β : List ℕ) → P.rest s ≡ y ∷ β → F' (suc s) ≡ 0 → suc s ≡ p → ⊥)
      → ((h : ℕ) → r ≤ h → h < Q → F' h ≡ 0)
      → Looking L G w P Q (item_raised C p i j v) A' F' r i j
  look_item C A A' F F' p x v q r i j α y d n e c a f m g = record {
    past = past_keeps C (item_raised C p i j v) i j (λ s k l h. raised_other C p i j v s k l (λ u v w. h v w)) (λ b k l h. raised_whole C p i j v b k l) y.past;
    column = record {
      idle = λ s z k β u t. let o = a s t in raised_other C p i j v s k j (λ u v w. o.1 u) ∙ y.column.idle s z k β u o.0;
      ends = λ s u h t. y.column.ends s u h (a s t).0;
    };
    quiet = λ s z β u t.
        let o : made L G w (item_raised C p i j v) z s i j ≡ made L G w C z s i j =
        made-same L G w C (item_raised C p i j v) z s i j n (λ h b b'. raised_other C p i j v (suc s) h j (λ b c d. m s z β u t b)) (λ h b b'. raised_whole C p i j v z i h) in
        subst (λ k. cap k ≤ (item_raised C p i j v).item s i j) (sym o) (elim (f (suc s) t) [
          | inl h ↦ here s z β u (omega arith)
          | inr h ↦ other s z β u (y.quiet s z β u h) (elim (ℕ_discrete s p) [ yes b ↦ inl b | no b ↦ inr b ])
        ]);
    high = g;
  }
    where
      here : (s z : ℕ) (β : List ℕ) → P.rest s ≡ z ∷ β → s ≡ p → cap (made L G w C z s i j) ≤ (item_raised C p i j v).item s i j
      here s z β u h =
          let k : z ∷ β ≡ x ∷ α = sym u ∙ ap P.rest h ∙ e in
          let z' : z ≡ x = cc k in
          subst (λ k. cap (made L G w C z k i j) ≤ (item_raised C p i j v).item k i j) (sym h) (subst (λ k. cap (made L G w C k p i j) ≤ (item_raised C p i j v).item p i j) (sym z') (omega (arith, raised_same C p i j v)))

      other : (s z : ℕ) (β : List ℕ) → P.rest s ≡ z ∷ β → cap (made L G w C z s i j) ≤ C.item s i j → (s ≡ p) ⊎ (s ≡ p → ⊥) → cap (made L G w C z s i j) ≤ (item_raised C p i j v).item s i j
      other s z β u h (inl b) = here s z β u b
      other s z β u h (inr b) = omega (arith, h, raised_other C p i j v s i j (λ u v w. b u))

  -- a nonterminal rises: every place before it is flagged
  pub look-whole : (C : Chart) (A F F' : ℕ → ℕ) (b v q r i j : ℕ) → Looking L G w P Q C A F q i j → i ≤ j
      → ((h : ℕ) → F' h ≡ 0 → F h ≡ 0)
      → ((s : ℕ) (β : List ℕ) → P.rest s ≡ b ∷ β → F' (suc s) ≡ 0 → ⊥)
      → ((h : ℕ) → r ≤ h → h < Q → F' h ≡ 0)
      → Looking L G w P Q (whole_raised C b i j v) A F' r i j
  look-whole C A F F' b v q r i j y n f m g = record {
    past = past_keeps C (whole_raised C b i j v) i j (λ s k l h. risen_item C b i j v s k l) (λ a k l h. risen-other C b i j v a k l (λ u v w. h v w)) y.past;
    column = record {
      idle = λ s z k β u t. risen_item C b i j v s k j ∙ y.column.idle s z k β u t;
      ends = y.column.ends;
    };
    quiet = λ s z β u t.
        let o : made L G w (whole_raised C b i j v) z s i j ≡ made L G w C z s i j =
        made-same L G w C (whole_raised C b i j v) z s i j n (λ h c c'. risen_item C b i j v (suc s) h j)
        (λ h c c'. risen-other C b i j v z i h (λ e c d. m s β (u ∙ ap (λ k. k ∷ β) e) t)) in
        subst (λ k. cap k ≤ (whole_raised C b i j v).item s i j) (sym o)
        (subst (λ k. cap (made L G w C z s i j) ≤ k) (sym (risen_item C b i j v s i j)) (y.quiet s z β u (f (suc s) t)));
    high = g;
  }

  -- a new span: the places whose rest has a mark are flagged
  pub look-begins : (C : Chart) (A : ℕ → ℕ) (i j : ℕ) → ((p x : ℕ) (α : List ℕ) → P.rest p ≡ x ∷ α → suc p < Q) → ((p : ℕ) → (P.rest p ≡ []) ⊎ ((x : ℕ) × ((α : List ℕ) × (P.rest p ≡ x ∷ α))))
      → i ≤ j → Past L G w P Q C (suc i) j → Column L G w P Q C A j → Looking L G w P Q C A A Q i j
  unfolding cap
  look-begins C A i j inQ cases n y c = record {
    past = y;
    column = c;
    quiet = λ p x α e z. elim (cases (suc p)) [
      | inl h ↦ absurd (c.ends (suc p) h (inQ p x α e) z)
      | inr h ↦ let o : made L G w C x p i j ≡ 0 = none_made L G w C x p i j (λ k. c.idle (suc p) h.0 k h.1.0 h.1.1 z) in subst (λ k. cap k ≤ C.item p i j) (sym o) (omega arith)
    ];
    high = λ h a b. absurd (omega arith);
  }

  -- no flag is left: the span is done
  pub look-ends : (C : Chart) (A F : ℕ → ℕ) (q i j : ℕ) → ((p x : ℕ) (α : List ℕ) → P.rest p ≡ x ∷ α → (2 ≤ p) × (suc p < Q)) → q ≤ 3 → Looking L G w P Q C A F q i j → Past L G w P Q C i j
  look-ends C A F q i j inQ n y = record {
    settled = λ p x k l α e g h d. elim d [
      | inl a ↦ y.past.settled p x k l α e g h (inl a)
      | inr a ↦ elim (ℕ_discrete k i) [
        | yes b ↦ let o = inQ p x α e in
            subst (λ z. Settled L G w C x p z l) (sym b) (subst (λ z. Settled L G w C x p i z) (sym a.0) (y.quiet p x α e (y.high (suc p) (omega arith) o.1)))
        | no b ↦ y.past.settled p x k l α e g h (inr (a.0, omega arith))
      ]
    ];
    fresh = y.past.fresh;
  }

  -- a new column, with marks at the ends alone
  pub column_begins : (C : Chart) (A : ℕ → ℕ) (j : ℕ) → ((p : ℕ) → P.rest p ≡ [] → p < Q → A p ≡ 0 → ⊥) → Past L G w P Q C 0 j → Past L G w P Q C (suc (suc j)) (suc j) × Column L G w P Q C A (suc j)
  column_begins C A j a y = (
    record {
      settled = λ p x k l α e g h d. elim d [
        | inl b ↦ y.settled p x k l α e g h (elim (ℕ_discrete l j) [ yes c ↦ inr (c, omega arith) | no c ↦ inl (omega arith) ])
        | inr b ↦ absurd (omega arith)
      ];
      fresh = λ p x k l α e h. y.fresh p x k l α e (omega arith);
    },
    record {
      idle = λ p x k α e z. y.fresh p x k (suc j) α e (omega arith);
      ends = a;
    },
  )
