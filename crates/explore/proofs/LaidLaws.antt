-- The rows that crate moves builds lead to triples only, and blocks with the same first index are the same. Assumes nothing.
use mathlib.Core.Path.{◌≡◌, refl, ap, ap₂, sym, subst, ◌∙◌}
use mathlib.Core.Bool.{Bool, true, false, not, ◌&&◌}
use mathlib.Core.List.{List}
use Prim.Native.Nat.{ℕ, ◌+◌, ◌-◌, ◌*◌, ◌≤◌, ◌<◌}
use native.Mathlib.Omega.{arith}
use native.Mathlib.Nat.{add-zero}
use lib.Dec.{eqb, ltb}
use lib.ListN.{length, get_or}
use mathlib.Core.Logic.{inl, inr}
use Rattle.grammar.specs.Basics.{choose}
use Rattle.grammar.specs.Limits.{limits}
use Rattle.automaton.specs.Moves.{Moves, Regular}
use Rattle.triples.specs.Index.{index, layer_of, left_of, right_of}
use Rattle.triples.proofs.Index.{digits, index_injective}
use Rattle.moves.specs.Tables.{Tables, reads_at}
use Rattle.moves.specs.Shows.{Alone, Shows}
use Rattle.plans.specs.declared.Side.{Side}
use Rattle.plans.specs.declared.Plan.{Plan}
use Rattle.plans.specs.Plan.{Rows, rows, side_of, alone_of, layer_after, pairs_of, plan_for, plan_of}
use Rattle.plans.proofs.PlanLaws.{side_from}
use Rattle.plans.proofs.PlannedLaws.{cell-target, verified, swapped}
use Rattle.explore.proofs.OrderedLaws.{last_of, factors, order}
use Rattle.explore.specs.State.{left_first, right_first, pair_first, pairs, Laid}

-- a number that may be 0 by a test, and is not
whole : (b : Bool) (x : ℕ) → 0 < choose b 0 x → choose b 0 x ≡ x
whole true x h = absurd (omega arith)
whole false x h = refl

-- the same, where it is 0 if the test fails
whole_if : (b : Bool) (x : ℕ) → 0 < choose b x 0 → choose b x 0 ≡ x
whole_if true x h = refl
whole_if false x h = absurd (omega arith)

-- a side that moves alone has all targets of its class
alone-whole : (ahead : List ℕ) (t m f : ℕ) (s : Side) (o : ℕ) → 0 < alone_of ahead t m f s o → alone_of ahead t m f s o ≡ s.span
unfolding alone_of
alone-whole ahead t m f s o h = whole (eqb f 0 && (ltb s.kind m && not (reads_at ahead t o))) s.span h

-- where there are pairs, each target of one side is paired with each of the other
pairs-whole : (number : List ℕ) (m f a b : ℕ) (x y : Side) → 0 < pairs_of number m f a b x y → pairs_of number m f a b x y ≡ x.span * y.span
unfolding pairs_of
pairs-whole number m f a b x y h =
    whole_if (eqb f 0 && (ltb x.kind m && (ltb y.kind m && not (eqb (get_or number a 0) (get_or number b 0))))) (x.span * y.span) h

module _ (M : Moves) (S : Regular M) (t m : ℕ) (new : Tables) (X : Shows M t m new) (long : limits.max_states ≤ length new.targets) where
  abbrev Q : ℕ
  Q = M.states

  abbrev R : Rows
  R = rows new.ahead new.number new.member new.first new.after

  abbrev ts : List ℕ
  ts = new.targets

  abbrev side : ℕ → Side
  side p = side_of new.member new.first p

  -- the first target of a state
  abbrev head : ℕ → ℕ
  head p = get_or ts (side p).from 0

  -- it is a state, and the class of p leads to it
  head_facts : (p : ℕ) → p < Q → 0 < (side p).span → (head p < Q) × (get_or new.target (head p) 0 ≡ get_or new.member p 0)
  head_facts p h l =
      let a : Alone M p (head p) = subst (λ (k : ℕ). Alone M p (get_or ts k 0)) (add-zero (side p).from) (cell-target M S t m new X long p 0 h l) in
      let b = below a in
      (b, sym ((X.leads p (head p) h b).1 a))
    where
      below : {p u : ℕ} → Alone M p u → u < M.states
      below {p} {u} (inl o) = S.opens-below o.0 p u o.1
      below {p} {u} (inr o) = S.closes-below o.0 p u o.1

  -- states with the same first target have the same side
  same-side : (p q : ℕ) → p < Q → q < Q → 0 < (side p).span → 0 < (side q).span → head p ≡ head q → side p ≡ side q
  same-side p q hp hq lp lq e =
      ap (λ (c : ℕ). side_from c (get_or new.first c 0) (get_or new.first (c + 1) 0 - get_or new.first c 0))
      (sym (head_facts p hp lp).1 ∙ ap (λ (u : ℕ). get_or new.target u 0) e ∙ (head_facts q hq lq).1)

  abbrev plan : ℕ → ℕ → ℕ → ℕ → Plan
  plan i f p q = plan_for R t m Q f p q (side p) (side q)

  -- left blocks with the same first index
  left-same : (i f p q j g r s : ℕ) → p < Q → q < Q → r < Q → s < Q → 0 < (plan i f p q).left → 0 < (plan j g r s).left
      → left_first (plan i f p q) ts Q ≡ left_first (plan j g r s) ts Q
      → ((plan i f p q).left ≡ (plan j g r s).left) × ((plan i f p q).left_from ≡ (plan j g r s).left_from)
      × ((plan i f p q).left_base ≡ (plan j g r s).left_base)
  left-same i f p q j g r s hp hq hr hs k l e =
      let a = alone-whole new.ahead t m f (side p) q k in
      let b = alone-whole new.ahead t m g (side r) s l in
      let kp : 0 < (side p).span = omega (arith, a) in
      let lr : 0 < (side r).span = omega (arith, b) in
      let x = layer_after m f (side p) in
      let y = layer_after m g (side r) in
      let d =
      index_injective Q x (head p) q y (head r) s (head_facts p hp kp).0 hq (head_facts r hr lr).0 hs
      (swapped (x * (Q * Q)) (head p * Q) q ∙ e ∙ swapped (y * (Q * Q)) s (head r * Q)) in
      let z = same-side p r hp hr kp lr d.1 in
      (a ∙ ap (λ (w : Side). w.span) z ∙ sym b, ap (λ (w : Side). w.from) z, ap₂ (λ (v w : ℕ). v * (Q * Q) + w) d.0 d.2)

  -- right blocks with the same first index
  right-same : (i f p q j g r s : ℕ) → p < Q → q < Q → r < Q → s < Q → 0 < (plan i f p q).right → 0 < (plan j g r s).right
      → right_first (plan i f p q) ts ≡ right_first (plan j g r s) ts
      → ((plan i f p q).right ≡ (plan j g r s).right) × ((plan i f p q).right_from ≡ (plan j g r s).right_from)
      × ((plan i f p q).right_base ≡ (plan j g r s).right_base)
  right-same i f p q j g r s hp hq hr hs k l e =
      let a = alone-whole new.ahead t m f (side q) p k in
      let b = alone-whole new.ahead t m g (side s) r l in
      let kq : 0 < (side q).span = omega (arith, a) in
      let ls : 0 < (side s).span = omega (arith, b) in
      let d =
      index_injective Q (layer_after m f (side q)) p (head q) (layer_after m g (side s)) r (head s) hp (head_facts q hq kq).0 hr (head_facts s hs ls).0 e in
      let z = same-side q s hq hs kq ls d.2 in
      (a ∙ ap (λ (w : Side). w.span) z ∙ sym b, ap (λ (w : Side). w.from) z, ap₂ (λ (v w : ℕ). v * (Q * Q) + w * Q) d.0 d.1)

  -- so in a plan that has pairs
  pairs_are : (i f p q : ℕ) → 0 < pairs (plan i f p q) → pairs (plan i f p q) ≡ (side p).span * (side q).span
  pairs_are i f p q k =
      let n = pairs_of new.number m f p q (side p) (side q) in
      let e : pairs (plan i f p q) ≡ n = last_of (plan i f p q).left (plan i f p q).right (plan i f p q).shift n in
      e ∙ pairs-whole new.number m f p q (side p) (side q) (omega (arith, k, e))

  -- pairs with the same first index
  pair_same : (i f p q j g r s : ℕ) → p < Q → q < Q → r < Q → s < Q → 0 < pairs (plan i f p q) → 0 < pairs (plan j g r s)
      → pair_first (plan i f p q) ts Q ≡ pair_first (plan j g r s) ts Q
      → (pairs (plan i f p q) ≡ pairs (plan j g r s)) × ((plan i f p q).left_from ≡ (plan j g r s).left_from)
      × ((plan i f p q).right_from ≡ (plan j g r s).right_from) × ((plan i f p q).columns ≡ (plan j g r s).columns)
  pair_same i f p q j g r s hp hq hr hs k l e =
      let a = pairs_are i f p q k in
      let b = pairs_are j g r s l in
      let u = factors (side p).span (side q).span (subst (λ (n : ℕ). 0 < n) a k) in
      let v = factors (side r).span (side s).span (subst (λ (n : ℕ). 0 < n) b l) in
      let o : index Q 1 (head p) (head q) ≡ index Q 1 (head r) (head s) = omega (arith, e) in
      let d =
      index_injective Q 1 (head p) (head q) 1 (head r) (head s) (head_facts p hp u.0).0 (head_facts q hq u.1).0
      (head_facts r hr v.0).0 (head_facts s hs v.1).0 o in
      let x = same-side p r hp hr u.0 v.0 d.1 in
      let y = same-side q s hq hs u.1 v.1 d.2 in (
        a ∙ ap₂ (λ (v w : Side). v.span * w.span) x y ∙ sym b,
        ap (λ (w : Side). w.from) x,
        ap (λ (w : Side). w.from) y,
        ap (λ (w : Side). w.span) y,
      )

  -- there are states
  some : 0 < Q
  some = omega (arith, S.four)

  -- rows that show an automaton are laid out
  pub laid : Laid R ts t m Q
  unfolding plan_of
  laid = record {
    verified = verified M S t m new X long;
    ordered = λ i h. let x = digits Q i some h in order M S t m new X long i (layer_of Q i) (left_of Q i) (right_of Q i) (sym x.whole) x.layer x.left x.right;
    long = long;
    left_apart = λ i j h k.
        let x = digits Q i some h in
        let y = digits Q j some k in
        left-same i (layer_of Q i) (left_of Q i) (right_of Q i) j (layer_of Q j) (left_of Q j) (right_of Q j) x.left x.right y.left y.right;
    right_apart = λ i j h k.
        let x = digits Q i some h in
        let y = digits Q j some k in
        right-same i (layer_of Q i) (left_of Q i) (right_of Q i) j (layer_of Q j) (left_of Q j) (right_of Q j) x.left x.right y.left y.right;
    pair_apart = λ i j h k.
        let x = digits Q i some h in
        let y = digits Q j some k in
        pair_same i (layer_of Q i) (left_of Q i) (right_of Q i) j (layer_of Q j) (left_of Q j) (right_of Q j) x.left x.right y.left y.right;
  }

-- the same with the number of states by itself
pub laid_of : (M : Moves) (S : Regular M) (t m Q : ℕ) → Q ≡ M.states → (new : Tables) (X : Shows M t m new)
    (long : limits.max_states ≤ length new.targets)
    → Laid (rows new.ahead new.number new.member new.first new.after) new.targets t m Q
laid_of M S t m Q e new X long =
    subst (λ (Q : ℕ). Laid (rows new.ahead new.number new.member new.first new.after) new.targets t m Q) (sym e) (laid M S t m new X long)
