-- The successors of a plan of rows that show an automaton stand in the order in which they are pushed. A shift moves the right side,
-- which a left block leaves where it is; so the shift's index is none of the block's. Assumes nothing.
use mathlib.Core.Path.{◌≡◌, refl, ap, subst, ◌∙◌}
use mathlib.Core.Logic.{◌⊎◌, inl, inr}
use mathlib.Core.List.{List, [], ◌∷◌}
use Prim.Native.Nat.{ℕ, zero, suc, ◌+◌, ◌-◌, ◌*◌, ◌/◌, ◌≤◌, ◌<◌}
use native.Mathlib.Omega.{arith}
use native.Mathlib.Decide.{ℕ_discrete}
use native.Mathlib.Nat.{suc-mul, mul-le-mul_right, mul-div_cancel, mul-zero, zero-mul}
use lib.ListN.{length, get_or}
use Rattle.grammar.specs.Limits.{limits}
use Rattle.grammar.proofs.Lists.{lt_or_le}
use Rattle.automaton.specs.Moves.{Moves, listed, Regular}
use Rattle.triples.specs.Index.{index}
use Rattle.triples.specs.Successor.{BeforeTerminal}
use Rattle.moves.specs.Tables.{Ascends, segment, Tables}
use Rattle.moves.specs.Shows.{Closed, Alone, Shows}
use Rattle.plans.specs.declared.Side.{Side}
use Rattle.plans.specs.declared.Plan.{Plan}
use Rattle.plans.specs.Plan.{Rows, rows, side_of, alone_of, layer_after, shift_of, pairs_of, plan_for}
use Rattle.plans.proofs.PlanLaws.{alone_le}
use Rattle.plans.proofs.BlockLaws.{alone_reads, layer-opens, layer-later, shift_facts, pairs_facts, pairs_is, pairs-later, opens-layer}
use Rattle.plans.proofs.PlannedLaws.{cell-target, part, part_at, part_length, opens-kind, reads_before}
use Rattle.explore.specs.State.{Climbs, SidesOrder, PlanOrder, pairs}

-- an ascending list rises from place to place
ascends_low : (a b : ℕ) (l : List ℕ) (k : ℕ) → Ascends a b l → k < length l → a ≤ get_or l k 0
ascends_low a b [] k h i = absurd (omega arith)
ascends_low a b (x ∷ l) zero h i = h.0
ascends_low a b (x ∷ l) (suc k) h i = omega (arith, h.0, ascends_low (x + 1) b l k h.2 (omega arith))

ascends_rise : (a b : ℕ) (l : List ℕ) (j k : ℕ) → Ascends a b l → j < k → k < length l → get_or l j 0 < get_or l k 0
ascends_rise a b [] j k h i c = absurd (omega arith)
ascends_rise a b (x ∷ l) j zero h i c = absurd (omega arith)
ascends_rise a b (x ∷ l) zero (suc k) h i c = omega (arith, ascends_low (x + 1) b l k h.2 (omega arith))
ascends_rise a b (x ∷ l) (suc j) (suc k) h i c = ascends_rise (x + 1) b l j k h.2 (omega arith) (omega arith)

-- rows of indices compared: in one layer, a row not below p begins with p or lies past it
row-past : (Q w p u q v : ℕ) → q < Q → v < Q → w + p * Q ≤ w + q + u * Q → ((p < u) × (w + p * Q + v < w + q + u * Q)) ⊎ (u ≡ p)
row-past Q w p u q v hq hv le = elim (lt_or_le u p) [
  | inl l ↦ absurd (omega (arith, mul-le-mul_right Q l, suc-mul u Q))
  | inr l ↦ elim (ℕ_discrete u p) [
    | yes e ↦ inr e
    | no n ↦ inl (omega (arith, n), omega (arith, mul-le-mul_right Q (let z : suc p ≤ u = omega (arith, n) in z), suc-mul p Q))
  ]
]

-- indices of one layer with unequal right states differ
row_apart : (Q w u p v q : ℕ) → v < Q → q < Q → v < q → w + v + u * Q ≡ w + p * Q + q → ⊥
row_apart Q w u p v q hv hq l e = elim (lt_or_le u p) [
  | inl h ↦ omega (arith, e, mul-le-mul_right Q h, suc-mul u Q)
  | inr h ↦ elim (ℕ_discrete u p) [
    | yes z ↦ omega (arith, e, l, ap (λ (u : ℕ). u * Q) z)
    | no n ↦ omega (arith, e, mul-le-mul_right Q (let z : suc p ≤ u = omega (arith, n) in z), suc-mul p Q)
  ]
]

-- the last of four numbers
pub last_of : (a b c d : ℕ) → a + b + c + d - a - b - c ≡ d
last_of a b c d = omega arith

-- both factors of a product that is not 0
pub factors : (a b : ℕ) → 0 < a * b → (0 < a) × (0 < b)
factors zero b h = absurd (omega (arith, zero-mul b))
factors (suc a) zero h = absurd (omega (arith, mul-zero (suc a)))
factors (suc a) (suc b) h = (omega arith, omega arith)

zero_or : (n : ℕ) → (0 < n → ⊥) → n ≡ 0
zero_or zero h = refl
zero_or (suc n) h = absurd (h (omega arith))

module _ (M : Moves) (S : Regular M) (t m : ℕ) (new : Tables) (X : Shows M t m new) (long : limits.max_states ≤ length new.targets) where
  abbrev Q : ℕ
  Q = M.states

  abbrev R : Rows
  R = rows new.ahead new.number new.member new.first new.after

  abbrev ts : List ℕ
  ts = new.targets

  abbrev side : ℕ → Side
  side p = side_of new.member new.first p

  -- a target of a state
  target : (p k : ℕ) → p < Q → (side p).from ≤ k → k < (side p).from + (side p).span → (get_or ts k 0 < Q) × Alone M p (get_or ts k 0)
  target p k h a b =
      let e : (side p).from + (k - (side p).from) ≡ k = omega arith in
      let c : Alone M p (get_or ts k 0) = subst (λ (z : ℕ). Alone M p (get_or ts z 0)) e (cell-target M S t m new X long p (k - (side p).from) h (omega arith)) in
      (below c, c)
    where
      below : {u : ℕ} → Alone M p u → u < M.states
      below {u} (inl o) = S.opens-below o.0 p u o.1
      below {u} (inr o) = S.closes-below o.0 p u o.1

  -- the targets of a state ascend
  climbs : (p n : ℕ) → p < Q → n ≤ (side p).span → Climbs ts (side p).from ((side p).from + n)
  unfolding segment
  climbs p n h le k l a b c =
      let j = k - (side p).from in
      let i = l - (side p).from in
      let ej : (side p).from + j ≡ k = omega arith in
      let ei : (side p).from + i ≡ l = omega arith in
      let r = ascends_rise 0 Q (part M S t m new X long p) j i (X.ascends p h) (omega arith) (omega (arith, part_length M S t m new X long p h)) in
      omega (arith, r, part_at M S t m new X long p j (omega arith), part_at M S t m new X long p i (omega arith), ap (λ (z : ℕ). get_or ts z 0) ej, ap (λ (z : ℕ). get_or ts z 0) ei)

  -- a state before a terminal moves in no other way
  no_move : (q u : ℕ) → BeforeTerminal (listed M) q → Alone M q u → ⊥
  no_move q u (a, x, (r, s)) (inr c) = S.ahead_no_close c.0 q u (omega (arith, s.0, s.1)) c.1
  no_move q u (a, x, (r, s)) (inl o) = S.terminal_no_open o.0 q u (omega (arith, s.0, x.0), omega (arith, s.0, x.1)) o.1

  -- the state past one that stands before a symbol: a later one
  abbrev past : ℕ → ℕ
  past p = get_or new.after p 0

  later-past : (p : ℕ) → p < Q → 1 ≤ M.ahead p → (p < past p) × (past p < Q)
  later-past p l h = let e = X.after p l h in (omega (arith, e, S.later p h), omega (arith, e, S.shifts-below p h))

  -- where both sides have moves alone, both stay in the layer
  layer-left : (f p q k l : ℕ) → f < 2 → p < Q → q < Q → (side p).from ≤ k → k < (side p).from + alone_of new.ahead t m f (side p) q
      → (side q).from ≤ l → l < (side q).from + (side q).span → layer_after m f (side p) ≡ f
  layer-left zero p q k l hf hp hq a b c d = elim (lt_or_le (side p).kind m) [
    | inl w ↦ absurd (no_move q (get_or ts l 0) (reads_before M S t m new X long q hq (alone_reads new.ahead t m (side p) q (k - (side p).from) (omega arith) w)) (target q l hq c d).1)
    | inr w ↦ layer-opens new.ahead t m (side p) q w
  ]
  layer-left (suc zero) p q k l hf hp hq a b c d = layer-later new.ahead t m (side p) q
  layer-left (suc (suc f)) p q k l hf hp hq a b c d = absurd (omega arith)

  abbrev plan : ℕ → ℕ → ℕ → ℕ → Plan
  plan i f p q = plan_for R t m Q f p q (side p) (side q)

  -- what a shift tells
  shift_ahead : (f p q : ℕ) → p < Q → q < Q → 0 < shift_of new.ahead t f p q → (1 ≤ M.ahead p) × (1 ≤ M.ahead q)
  shift_ahead f p q hp hq s =
      let c = shift_facts new.ahead t f p q s in
      (omega (arith, c.0, X.ahead p hp), omega (arith, c.0, c.1, X.ahead q hq))

  module _ (i f p q : ℕ) (e : i ≡ index Q f p q) (hf : f < 2) (hp : p < Q) (hq : q < Q) where
    abbrev P : Plan
    P = plan i f p q

    left_le : P.left ≤ (side p).span
    left_le = alone_le new.ahead t m f (side p) q

    right_le : P.right ≤ (side q).span
    right_le = alone_le new.ahead t m f (side q) p

    four : 4 ≤ Q
    four = S.four

    shift_layers : 0 < P.shift → (layer_after m f (side p) ≡ f) × (layer_after m f (side q) ≡ f)
    shift_layers s =
        let b = shift_ahead f p q hp hq s in
        (opens-layer new.ahead t m (side p) q f hf (X.ahead_class p hp b.0), opens-layer new.ahead t m (side q) p f hf (X.ahead_class q hq b.1))

    sides : SidesOrder ts Q P.left_from (P.left_from + P.left) P.left_base P.right_from (P.right_from + P.right) P.right_base P.shift P.beside i
    sides = record {
      some = omega (arith, four);
      climbs_left = climbs p P.left hp left_le;
      climbs_right = climbs q P.right hq right_le;
      past-right = λ k l a b c d le.
          let u = target p k hp a (omega (arith, left_le)) in
          let v = target q l hq c (omega (arith, right_le)) in
          let x : layer_after m f (side p) ≡ f = layer-left f p q k l hf hp hq a b c (omega (arith, right_le)) in
          let y : layer_after m f (side q) ≡ f = layer-left f q p l k hf hq hp c d a (omega (arith, left_le)) in
          let xx = ap (λ (z : ℕ). z * (Q * Q)) x in
          let yy = ap (λ (z : ℕ). z * (Q * Q)) y in
          elim (row-past Q (f * (Q * Q)) p (get_or ts k 0) q (get_or ts l 0) hq v.0 (omega (arith, le, xx, yy))) [
            | inl h ↦ inl (omega (arith, h.1, xx, yy))
            | inr h ↦ inr (omega (arith, e, xx, ap (λ (z : ℕ). z * Q) h))
          ];
      shift_past = λ s.
          let y = ap (λ (z : ℕ). z * (Q * Q)) (shift_layers s).1 in
          let u = later-past p hp (shift_ahead f p q hp hq s).0 in omega (arith, y, mul-le-mul_right Q u.0, suc-mul p Q);
      shift_past-right = λ s l c d.
          let v = target q l hq c (omega (arith, right_le)) in
          let y = ap (λ (z : ℕ). z * (Q * Q)) (shift_layers s).1 in
          let u = later-past p hp (shift_ahead f p q hp hq s).0 in omega (arith, y, v.0, mul-le-mul_right Q u.0, suc-mul p Q);
      shift_apart = λ s k a b z.
          let xx = ap (λ (z : ℕ). z * (Q * Q)) (shift_layers s).0 in
          let v = later-past q hq (shift_ahead f p q hp hq s).1 in
          row_apart Q (f * (Q * Q)) (get_or ts k 0) (past p) q (past q) hq v.1 v.0 (omega (arith, z, xx));
    }

    -- where there are pairs, both sides close
    both-close : 0 < pairs P → (f ≡ 0) × (pairs P ≡ (side p).span * (side q).span) × ((side p).kind < m) × ((side q).kind < m) × (0 < (side p).span) × (0 < (side q).span)
    both-close h = by f hf refl
      where
        n : ℕ
        n = pairs_of new.number m f p q (side p) (side q)

        same : pairs P ≡ n
        same = last_of P.left P.right P.shift n

        by : (g : ℕ) → g < 2 → f ≡ g → (f ≡ 0) × (pairs P ≡ (side p).span * (side q).span) × ((side p).kind < m) × ((side q).kind < m) × (0 < (side p).span) × (0 < (side q).span)
        by zero l z =
            let w : n ≡ pairs_of new.number m 0 p q (side p) (side q) = ap (λ (g : ℕ). pairs_of new.number m g p q (side p) (side q)) z in
            let c = pairs_facts new.number m p q (side p) (side q) 0 (omega (arith, h, same, w)) in
            let k = factors (side p).span (side q).span c.3 in
            (z, same ∙ w ∙ pairs_is new.number m p q (side p) (side q) c.0 c.1 c.2, c.0, c.1, k.0, k.1)
        by (suc zero) l z =
            let w : n ≡ 0 = ap (λ (g : ℕ). pairs_of new.number m g p q (side p) (side q)) z ∙ pairs-later new.number m p q (side p) (side q) in
            absurd (omega (arith, h, same, w))
        by (suc (suc g)) l z = absurd (omega arith)

    closes_at : (a : ℕ) → a < Q → (side a).kind < m → 0 < (side a).span → (i u : ℕ) × Closed M i a u
    closes_at a h k s = elim (target a (side a).from h (omega arith) (omega arith)).1 [
      | inl o ↦ absurd (let z : ⊥ = omega (arith, k, opens-kind M S t m new X long h o.1) in z)
      | inr c ↦ (c.0, get_or ts (side a).from 0, c.1)
    ]

    none-alone : (a b : ℕ) → a < Q → b < Q → f ≡ 0 → (side a).kind < m → (side b).kind < m → 0 < (side b).span → alone_of new.ahead t m f (side a) b ≡ 0
    none-alone a b ha hb z ka kb sb =
        ap (λ (g : ℕ). alone_of new.ahead t m g (side a) b) z ∙ zero_or (alone_of new.ahead t m 0 (side a) b) (λ l.
        no_move b (get_or ts (side b).from 0) (reads_before M S t m new X long b hb (alone_reads new.ahead t m (side a) b 0 l ka)) (target b (side b).from hb (omega arith) (omega arith)).1)

    pub order : PlanOrder P ts Q i
    order = record {
      sides = sides;
      grid = λ h.
          let c = both-close h in
          let lines : pairs P / (side q).span ≡ (side p).span = ap (λ (z : ℕ). z / (side q).span) c.1 ∙ mul-div_cancel (side p).span c.5 in
          record {
            climbs_left = climbs p (pairs P / (side q).span) hp (omega (arith, lines));
            climbs_right = climbs q (side q).span hq (omega arith);
            small = λ l a b. (target q l hq a b).0;
          };
      alone = λ h.
          let c = both-close h in
          let x = closes_at p hp c.2 c.4 in (
            none-alone p q hp hq c.0 c.2 c.3 c.5,
            none-alone q p hq hp c.0 c.3 c.2 c.4,
            zero_or P.shift (λ s. S.ahead_no_close x.0 p x.1 (shift_ahead f p q hp hq s).0 x.2),
          );
    }
