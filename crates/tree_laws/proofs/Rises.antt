-- What a rise keeps: counts that are not too large, and a nonterminal's count as the sum over its rules. Assumes nothing.
use Prim.Native.Nat.{ℕ, zero, suc, ◌+◌, ◌-◌, ◌≤◌, ◌<◌}
use mathlib.Core.Path.{◌≡◌, refl, sym, ap, ap₂, subst, ◌∙◌}
use mathlib.Core.Bool.{Bool, true, false, ◌&&◌}
use mathlib.Core.List.{List, ◌∷◌}
use native.Mathlib.Omega.{arith}
use native.Mathlib.Decide.{ℕ_discrete}
use lib.Dec.{eqb, ltb, leb}
use lib.ListN.{length, get_or}
use borrow.Author.Tests.{ltb-true, leb-false, eqb-true}
use Rattle.grammar.specs.Basics.{choose}
use Rattle.grammar.specs.Limits.{Limits}
use Rattle.grammar.specs.Grammar.{Terminal, Grammar, IsRule, start, rule}
use Rattle.grammar.specs.Tree.{AppliesRuleOf}
use Rattle.grammar.proofs.Answers.{and_both}
use Rattle.tree_laws.specs.Spans.{AtLeast, Spans}
use Rattle.tree_laws.specs.Chart.{cap, Places, Chart, splits, kin, SoundTo, Sums, made}
use Rattle.tree_laws.specs.Filling.{item_raised, whole_raised}
use Rattle.tree_laws.proofs.AtLeast.{least_zero, least_le}
use Rattle.tree_laws.proofs.Cap.{cap_le, cap_early}
use Rattle.tree_laws.proofs.Fill.{raised_other, raised_whole, risen-same, risen-other, risen_item, kin_raised, node_sound, leaf_sound, raise_new, raise_more}

module _ (L : Limits) (G : Grammar) (w : List ℕ) (P : Places L G) where
  -- what is made of a count is not too large
  pub made_sound : (d : ℕ) (C : Chart) → ((b r : ℕ) → AppliesRuleOf L G b r → Terminal G.terminals b → ⊥) → SoundTo L G w P d C → Sums L G w P C
      → (p x i j : ℕ) (α : List ℕ) → P.rest p ≡ x ∷ α → (x < start L → Terminal G.terminals x) → i ≤ j → j ≤ length w
      → AtLeast (suc d) (cap (made L G w C x p i j)) (λ f. Spans L G w (P.rest p) f i j)
  unfolding made
  made_sound d C apart s t p x i j α e k h g = go (leb (start L) x) (ltb i j && eqb (get_or w i 0) x) refl refl
    where
      go : (a b : Bool) → leb (start L) x ≡ a → (ltb i j && eqb (get_or w i 0) x) ≡ b
          → AtLeast (suc d) (cap (choose a (splits C x (suc p) i j (suc (j - i))) (choose b (C.item (suc p) (suc i) j) 0))) (λ f. Spans L G w (P.rest p) f i j)
      go true b u v = node_sound L G w P d C apart s t p x i j α e h g
      go false true u v =
          let y = and_both (ltb i j) (eqb (get_or w i 0) x) v in
          least_le d (suc d) (cap (C.item (suc p) (suc i) j)) (C.item (suc p) (suc i) j) (cap_le _) (omega arith)
          (leaf_sound L G w P d C s p x i j α e (k (leb-false (start L) x u)) (ltb-true i j y.0) g (eqb-true (get_or w i 0) x y.1))
      go false false u v = least_zero (suc d) (cap 0) (omega (arith, cap_le 0))

  -- an item raised to what is made of it
  pub sound_rise : (d : ℕ) (C : Chart) (p i j v : ℕ) → SoundTo L G w P d C → i ≤ j → j ≤ length w
      → AtLeast (suc d) v (λ f. Spans L G w (P.rest p) f i j)
      → (e : ℕ) × (SoundTo L G w P e (item_raised C p i j v) × (1 ≤ C.item p i j → e ≡ d) × (e ≤ suc d))
  sound_rise d C p i j v s h g a = elim (ℕ_discrete (C.item p i j) 0) [
    | yes z ↦ (suc d, (raise_new L G w P d C p i j v s a, λ q. absurd (omega arith), omega arith))
    | no z ↦ (d, (raise_more L G w P d C p i j v s h g (omega arith) a, λ q. refl, omega arith))
  ]

  pub sound_whole : (d : ℕ) (C : Chart) (b i j v : ℕ) → SoundTo L G w P d C → SoundTo L G w P d (whole_raised C b i j v)
  sound_whole d C b i j v s p k l h g = subst (λ z. AtLeast d z (λ f. Spans L G w (P.rest p) f k l)) (sym (risen_item C b i j v p k l)) (s p k l h g)

  -- a sum over rules whose items have the same counts is the same
  pub kin-same : (C D : Chart) (b i j m : ℕ) → ((r : ℕ) → 1 ≤ r → r ≤ m → (rule L G r).left ≡ b → D.item (P.first r) i j ≡ C.item (P.first r) i j) → kin L G P D b i j m ≡ kin L G P C b i j m
  unfolding kin
  kin-same C D b i j zero a = refl
  kin-same C D b i j (suc m) a = ap₂ (λ x y. x + y) (kin-same C D b i j m (λ r h g e. a r h (omega arith) e)) (go (eqb (rule L G (suc m)).left b) refl)
    where
      go : (t : Bool) → eqb (rule L G (suc m)).left b ≡ t → choose t (D.item (P.first (suc m)) i j) 0 ≡ choose t (C.item (P.first (suc m)) i j) 0
      go true e = a (suc m) (omega arith) (omega arith) (eqb-true (rule L G (suc m)).left b e)
      go false e = refl

  -- an item that begins no rule is in no sum
  pub sums_item : (C : Chart) (p i j v : ℕ) → ((r : ℕ) → IsRule G r → P.first r ≡ p → ⊥) → Sums L G w P C → Sums L G w P (item_raised C p i j v)
  sums_item C p i j v n s b k l h g =
      raised_whole C p i j v b k l ∙ s b k l h g
      ∙ ap cap (sym (kin-same C (item_raised C p i j v) b k l (length G.rules) (λ r x y e. raised_other C p i j v (P.first r) k l (λ u a c. n r (x, y) u))))

  -- the first item of a rule rises, and its left side's count by as much
  module _ (once : (r s : ℕ) → P.first r ≡ P.first s → r ≡ s) (C : Chart) (r i j v : ℕ) (q : IsRule G r) (hi : i ≤ j) (hj : j ≤ length w)
      (h : C.item (P.first r) i j ≤ v) (s : Sums L G w P C) where
    abbrev side : ℕ
    side = (rule L G r).left

    abbrev risen : Chart
    risen = item_raised C (P.first r) i j v

    abbrev more : ℕ
    more = cap (C.whole (rule L G r).left i j + (v - C.item (P.first r) i j))

    here : more ≡ cap (kin L G P risen side i j (length G.rules))
    here =
        let x : kin L G P risen side i j (length G.rules) ≡ kin L G P C side i j (length G.rules) + (v - C.item (P.first r) i j) =
        omega (arith, kin_raised L G w P once C r i j v side (length G.rules) q.1 q.0 refl) in
        ap (λ z. cap (z + (v - C.item (P.first r) i j))) (s side i j hi hj) ∙ cap_early (kin L G P C side i j (length G.rules)) (v - C.item (P.first r) i j) ∙ ap cap (sym x)

    elsewhere : (b k l : ℕ) → (b ≡ side → k ≡ i → l ≡ j → ⊥) → kin L G P risen b k l (length G.rules) ≡ kin L G P C b k l (length G.rules)
    elsewhere b k l n =
        kin-same C risen b k l (length G.rules)
        (λ o x y e. raised_other C (P.first r) i j v (P.first o) k l (λ c d f. n (sym e ∙ ap (λ z. (rule L G z).left) (once o r c)) d f))

    other : (b k l : ℕ) → k ≤ l → l ≤ length w → (b ≡ side → k ≡ i → l ≡ j → ⊥) → (whole_raised risen side i j more).whole b k l ≡ cap (kin L G P risen b k l (length G.rules))
    other b k l x y n = risen-other risen side i j more b k l n ∙ raised_whole C (P.first r) i j v b k l ∙ s b k l x y ∙ ap cap (sym (elsewhere b k l n))

    pub sums_whole : Sums L G w P (whole_raised risen side i j more)
    sums_whole b k l x y =
        let e = ap cap (sym (kin-same risen (whole_raised risen side i j more) b k l (length G.rules) (λ r x y e. risen_item risen side i j more (P.first r) k l))) in
        (elim (ℕ_discrete b side) [
          | no n ↦ other b k l x y (λ c d f. n c)
          | yes c ↦ elim (ℕ_discrete k i) [
            | no n ↦ other b k l x y (λ c d f. n d)
            | yes d ↦ elim (ℕ_discrete l j) [
              | no n ↦ other b k l x y (λ c d f. n f)
              | yes f ↦ at_it b k l c d f
            ]
          ]
        ]) ∙ e
      where
        at_it : (b k l : ℕ) → b ≡ side → k ≡ i → l ≡ j → (whole_raised risen side i j more).whole b k l ≡ cap (kin L G P risen b k l (length G.rules))
        at_it b k l c d f =
            ap₂ (λ b k. (whole_raised risen side i j more).whole b k l) c d ∙ ap (λ l. (whole_raised risen side i j more).whole side i l) f
            ∙ risen-same risen side i j more ∙ here
            ∙ sym (ap₂ (λ b k. cap (kin L G P risen b k l (length G.rules))) c d ∙ ap (λ l. cap (kin L G P risen side i l (length G.rules))) f)
