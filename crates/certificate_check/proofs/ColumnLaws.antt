-- Columns of a row: one target, one class, one column more, and the four blocks of a triple. Assumes nothing.
use mathlib.Core.Path.{◌≡◌, refl, ap, sym, subst, ◌∙◌}
use mathlib.Core.Bool.{true}
use mathlib.Core.Logic.{◌⊎◌, inl, inr}
use mathlib.Core.List.{List, [], ◌∷◌}
use Prim.Native.Nat.{ℕ, zero, suc, ◌+◌, ◌-◌, ◌*◌, ◌/◌, ◌%◌, ◌^◌, ◌≤◌, ◌<◌, min}
use native.Mathlib.Omega.{arith}
use native.Mathlib.Nat.{min-le_left, min-le_right, mul-le-mul, add-mul, mul_assoc, mod-lt, div-lt_iff_lt-mul, one-mul}
use native.Mathlib.Decide.{dec_lt, ℕ_discrete}
use lib.Bits.{bit_and, and_shr, and_step}
use lib.Dec.{eqb}
use lib.ListN.{length, get_or, set, replicate}
use lib.Pow.{shl_exact}
use lib.Seq.{get_or-set_other}
use Rattle.grammar.specs.Limits.{limits}
use Rattle.grammar.proofs.Answers.{no_bool}
use Rattle.triples.specs.Index.{index, triple_count}
use Rattle.triples.specs.Certificate.{bit, is_set}
use Rattle.triples.proofs.Index.{horner, pair_lt, index_below}
use Rattle.bits.specs.Windows.{wide_bits, Columns, Window, LowestOne}
use Rattle.bits.proofs.WindowLaws.{window_clear, lowest_clear}
use Rattle.plans.specs.declared.Side.{Side}
use Rattle.plans.specs.declared.Plan.{Plan}
use Rattle.plans.specs.Plan.{Rows, side_of, alone_of, layer_after, shift_of, pairs_of, plan_for, pair_at, next_of}
use Rattle.plans.specs.Clauses.{most_square, Verified, Has}
use Rattle.plans.proofs.PlanLaws.{plan-digits, alone_le, layer_le, pairs_le, product_le, next-left, next-right, next_shift, next-pair}
use Rattle.plans.proofs.BlockLaws.{alone-later, layer-later}
use Rattle.certificate_check.specs.Columns.{span_of, target_of, Placed, RowTo, RowHeld, PairsTo, PairsHeld, Noting, Noted, Met, ColumnsMet, LeftHeld, ClosedAt, ClosedFrom}

-- ---- targets and classes in a row

module _ (first targets : List ℕ) (Q : ℕ) (bytes : List ℕ) where
  pub row-none : (c row : ℕ) → RowTo first targets Q bytes c row 0
  row-none c row = record { each = λ h l. absurd (omega arith) }

  pub row_more : (c row k u : ℕ) → RowTo first targets Q bytes c row k → u ≡ target_of first targets c k → is_set bytes (row * Q + u) ≡ true
      → RowTo first targets Q bytes c row (k + 1)
  row_more c row k u old q s = record { each = each }
    where
      each : (h : ℕ) → h < k + 1 → is_set bytes (row * Q + target_of first targets c h) ≡ true
      each h l = elim (dec_lt h k) [
        | yes y ↦ old.each h y
        | no n ↦
            let e : h ≡ k = omega arith in
            ap (λ (k : ℕ). is_set bytes (row * Q + target_of first targets c k)) e ∙ ap (λ (u : ℕ). is_set bytes (row * Q + u)) (sym q) ∙ s
      ]

  pub pairs-none : (c d : ℕ) → PairsTo first targets Q bytes c d 0
  pairs-none c d = record { each = λ g h l k. absurd (omega arith) }

  -- the targets whose columns stand in a window of the rows of all targets of c
  pub pairs-more : (c d k r begin base w : ℕ) → PairsTo first targets Q bytes c d k → Placed first targets Q c → Placed first targets Q d → triple_count Q ≤ 8 * length bytes
      → base ≡ index Q 1 0 begin → Met bytes targets Q (get_or first c 0) (span_of first c) base w → ColumnsMet targets w begin (get_or first d 0) k r → r ≤ span_of first d
      → PairsTo first targets Q bytes c d r
  pairs-more c d k r begin base w old pc pd long q s m few = record { each = each }
    where
      each : (g h : ℕ) → g < span_of first c → h < r → is_set bytes ((Q + target_of first targets c g) * Q + target_of first targets d h) ≡ true
      each g h l j = elim (dec_lt h k) [
        | yes y ↦ old.each g h l y
        | no n ↦
            let u = target_of first targets c g in
            let v = target_of first targets d h in
            let z = m.near h (omega arith) j in
            let e : (Q + u) * Q + v ≡ base + u * Q + (v - begin) = omega (arith, q, z.0, add-mul Q u Q) in
            let i = index_below Q 1 u v (omega arith) (pc.each g l) (pd.each h (omega arith)) in
            ap (λ (n : ℕ). eqb n 1) (ap (bit bytes) e ∙ s.held (v - begin) g z.1 (m.bits h (omega arith) j) l (omega (arith, i, e, long, add-mul Q u Q)))
      ]

  -- what is asked for of the rows of all targets of c
  pub rows_fit : (c v base : ℕ) → Q ≤ limits.max_states → Placed first targets Q c → v < Q → base ≡ index Q 1 0 v
      → (get_or first c 0 + span_of first c ≤ limits.max_states) × (base ≤ 2 * most_square) × ((g : ℕ) → g < span_of first c → base + target_of first targets c g * Q < triple_count Q)
  rows_fit c v base few pc hv q = (
    omega (arith, pc.order, pc.inside),
    omega (arith, index_below Q 1 0 v (omega arith) (omega arith) hv, q, product_le Q Q few few),
    λ g l. omega (arith, index_below Q 1 (target_of first targets c g) v (omega arith) (pc.each g l) hv, q),
  )

  -- a row without notes; a note more
  clear_at : (n d : ℕ) → ◌≡◌ {A = ℕ} (get_or (replicate n 0) d 0) 0
  clear_at zero d = refl
  clear_at (suc n) zero = refl
  clear_at (suc n) (suc d) = clear_at n d

  pub note_none : (n : ℕ) → Noted first targets Q bytes (replicate {A = ℕ} n 0)
  note_none n = record { each = λ d note e. absurd (omega (arith, e, clear_at n d)) }

  -- what is written is read back, where the row is so long
  written : (l : List ℕ) (i v : ℕ) → (get_or (set l i v) i 0 ≡ v) ⊎ (get_or (set l i v) i 0 ≡ 0)
  written [] i v = inr refl
  written (x ∷ l) zero v = inl refl
  written (x ∷ l) (suc i) v = written l i v

  pub note_more : (seen : List ℕ) (d note v : ℕ) → v ≡ note + 1 → Noted first targets Q bytes seen → Noting first targets Q bytes d note
      → Noted first targets Q bytes (set seen d v)
  note_more seen d note v q old new = record { each = each }
    where
      same : (k : ℕ) → get_or (set seen d v) d 0 ≡ k + 1 → note ≡ k
      same k e = elim (written seen d v) [ inl w ↦ omega (arith, q, e, w) | inr w ↦ absurd (omega (arith, e, w)) ]

      each : (c k : ℕ) → get_or (set seen d v) c 0 ≡ k + 1 → Noting first targets Q bytes c k
      each c k e = elim (ℕ_discrete c d) [
        | yes y ↦
            subst (λ (c : ℕ). Noting first targets Q bytes c k) (sym y)
            (subst (Noting first targets Q bytes d) (same k (ap (λ (c : ℕ). get_or (set seen d v) c 0) (sym y) ∙ e)) new)
        | no n ↦ old.each c k (sym (get_or-set_other seen d c v 0 n) ∙ e)
      ]

  pub note_row : (d row : ℕ) → row < 2 * Q → RowHeld first targets Q bytes d row → Noting first targets Q bytes d row
  note_row d row h s = record { row = λ l. s; pairs = λ c e. absurd (omega arith) }

  pub note_pairs : (c d : ℕ) → PairsHeld first targets Q bytes c d → Noting first targets Q bytes d (2 * Q + c)
  note_pairs c d s = record { row = λ l. absurd (omega arith); pairs = λ k e. let q : c ≡ k = omega arith in subst (λ (c : ℕ). PairsHeld first targets Q bytes c d) q s }

-- ---- columns of targets in a window

module _ (targets : List ℕ) (w begin from k : ℕ) where
  pub columns-none : ColumnsMet targets w begin from k k
  columns-none = record { near = λ h l j. absurd (omega arith); bits = λ h l j. absurd (omega arith) }

  pub columns-more : (r v : ℕ) → ColumnsMet targets w begin from k r → v ≡ get_or targets (from + r) 0 → begin ≤ v → v - begin < wide_bits → w / 2 ^ (v - begin) % 2 ≡ 1
      → ColumnsMet targets w begin from k (r + 1)
  columns-more r v old q lo hi o = record { near = near; bits = bits }
    where
      last : (h : ℕ) → h < r + 1 → ((h < r) → ⊥) → v ≡ get_or targets (from + h) 0
      last h j n = let e : r ≡ h = omega arith in q ∙ ap (λ (i : ℕ). get_or targets (from + i) 0) e

      near : (h : ℕ) → k ≤ h → h < r + 1 → (begin ≤ get_or targets (from + h) 0) × (get_or targets (from + h) 0 - begin < wide_bits)
      near h l j = elim (dec_lt h r) [
        | yes y ↦ old.near h l y
        | no n ↦ let e = last h j n in (subst (λ (v : ℕ). begin ≤ v) e lo, subst (λ (v : ℕ). v - begin < wide_bits) e hi)
      ]

      bits : (h : ℕ) → k ≤ h → h < r + 1 → w / 2 ^ (get_or targets (from + h) 0 - begin) % 2 ≡ 1
      bits h l j = elim (dec_lt h r) [
        | yes y ↦ old.bits h l y
        | no n ↦ subst (λ (v : ℕ). w / 2 ^ (v - begin) % 2 ≡ 1) (last h j n) o
      ]

-- ---- columns that several rows have

-- a bit that two numbers have in common is one of each
and_bit : (a b c : ℕ) → bit_and a b / 2 ^ c % 2 ≡ 1 → (a / 2 ^ c % 2 ≡ 1) × (b / 2 ^ c % 2 ≡ 1)
and_bit a b c h =
    let x = a / 2 ^ c in
    let y = b / 2 ^ c in
    let e : (bit_and (x / 2) (y / 2) * 2 + min (x % 2) (y % 2)) % 2 ≡ 1 =
    ap (λ (n : ℕ). n % 2) (sym (and_shr a b c ∙ and_step x y)) ∙ h in
    let l = min-le_left (x % 2) (y % 2) in
    let r = min-le_right (x % 2) (y % 2) in
    (omega (arith, e, l), omega (arith, e, r))

module _ (bytes targets : List ℕ) (Q from base : ℕ) where
  pub met_none : (w : ℕ) → Met bytes targets Q from 0 base w
  met_none w = record { held = λ c k h o l u. absurd (omega arith) }

  pub met_more : (k w v u : ℕ) → Met bytes targets Q from k base w → u ≡ get_or targets (from + k) 0 → Columns bytes (base + u * Q) v
      → Met bytes targets Q from (k + 1) base (bit_and w v)
  met_more k w v u old q s = record { held = held }
    where
      held : (c j : ℕ) → c < wide_bits → bit_and w v / 2 ^ c % 2 ≡ 1 → j < k + 1 → base + get_or targets (from + j) 0 * Q + c < 8 * length bytes
          → bit bytes (base + get_or targets (from + j) 0 * Q + c) ≡ 1
      held c j h o l m = elim (dec_lt j k) [
        | yes y ↦ old.held c j h (and_bit w v c o).0 y m
        | no n ↦
            let e : j ≡ k = omega arith in
            let z : u ≡ get_or targets (from + j) 0 = q ∙ ap (λ (i : ℕ). get_or targets (from + i) 0) (sym e) in
            let b = ap (λ (i : ℕ). base + i * Q + c) z in
            ap (bit bytes) (sym b) ∙ sym (s.bits c h (subst (λ (i : ℕ). i < 8 * length bytes) (sym b) m)) ∙ (and_bit w v c o).1
      ]

-- ---- targets are states

-- in layer 1 a state moves alone beside every other, so every target is one of a triple's successors
target_in : (R : Rows) (targets : List ℕ) (t m Q p k : ℕ) → Verified R targets t m Q → p < Q → k < span_of R.first (get_or R.member p 0)
    → target_of R.first targets (get_or R.member p 0) k < Q
target_in R targets t m Q p k v h l =
    elim (dec_lt u Q) [ yes y ↦ y | no n ↦ absurd (let z : ⊥ = omega (arith, far, mul-le-mul {n₁ = Q} {m₁ = Q} {n₂ = u} {m₂ = Q} (omega arith) (omega arith)) in z) ]
  where
    x : Side
    x = side_of R.member R.first p

    u : ℕ
    u = target_of R.first targets (get_or R.member p 0) k

    b : ℕ
    b = Q - 1

    hb : b < Q
    hb = omega arith

    P : Plan
    P = plan_for R t m Q 1 p b x (side_of R.member R.first b)

    few : k < P.left
    few = omega (arith, l, alone-later R.ahead t m x b)

    inside : next_of P targets Q k < triple_count Q
    inside = subst (λ (P : Plan). k < P.total → next_of P targets Q k < triple_count Q) (sym (plan-digits R t m Q 1 p b h hb))
        (v.inside (index Q 1 p b) k (index_below Q 1 p b (omega arith) h hb)) (omega (arith, few))

    far : Q * Q + b + u * Q < 2 * (Q * Q)
    far =
        let e = next-left P targets Q k u few refl in
        let o : layer_after m 1 x * (Q * Q) ≡ 1 * (Q * Q) = ap (λ (n : ℕ). n * (Q * Q)) (layer-later R.ahead t m x b) in
        omega (arith, e, o, inside)

pub placed_of : (R : Rows) (targets : List ℕ) (t m Q p : ℕ) → Verified R targets t m Q → p < Q → Placed R.first targets Q (get_or R.member p 0)
placed_of R targets t m Q p v h =
    let f = v.fits.side p h in
    record { class = f.class; order = f.order; inside = f.inside; each = λ k l. target_in R targets t m Q p k v h l }

-- the same of a side that was looked up
pub placed-side : (R : Rows) (targets : List ℕ) (t m Q p : ℕ) (x : Side) → Verified R targets t m Q → p < Q → x ≡ side_of R.member R.first p
    → Placed R.first targets Q x.kind
placed-side R targets t m Q p x v h e = subst (λ (s : Side). Placed R.first targets Q s.kind) (sym e) (placed_of R targets t m Q p v h)

-- a bit of a row
pub row-bit : (Q row u : ℕ) → row < 2 * Q → u < Q → row * Q + u < triple_count Q
row-bit Q row u h l = omega (arith, pair_lt (2 * Q) Q row u h l, mul_assoc 2 Q Q)

pub row_times : (Q row : ℕ) → Q ≤ limits.max_states → row < 2 * Q → row * Q ≤ 2 * most_square
row_times Q row h l = mul-le-mul {n₁ = row} {m₁ = Q} {n₂ = 2 * limits.max_states} {m₂ = limits.max_states} (omega arith) h

-- ---- the blocks of a plan with n pairs

-- what holds of each block's entries holds of each successor
by_blocks : (P : Plan) (ts : List ℕ) (Q n : ℕ) → P.total ≡ P.left + P.right + P.shift + n → (X : ℕ → Type 0)
    → ((h : ℕ) → h < P.left → X (P.left_base + get_or ts (P.left_from + h) 0 * Q))
    → ((h : ℕ) → h < P.right → X (P.right_base + get_or ts (P.right_from + h) 0))
    → (0 < P.shift → X P.beside) → ((h : ℕ) → h < n → X (pair_at P ts Q h)) → (j : ℕ) → Has P ts Q j → X j
by_blocks P ts Q n sum X l r s p j x = subst X x.2 (elim (dec_lt x.0 P.left) [
  | yes a ↦ subst X (next-left P ts Q x.0 (get_or ts (P.left_from + x.0) 0) a refl) (l x.0 a)
  | no a ↦ elim (dec_lt (x.0 - P.left) P.right) [
    | yes b ↦ subst X (next-right P ts Q x.0 (get_or ts (P.right_from + (x.0 - P.left)) 0) (omega arith) b refl) (r (x.0 - P.left) b)
    | no b ↦ elim (dec_lt (x.0 - P.left - P.right) P.shift) [
      | yes c ↦ subst X (next_shift P ts Q x.0 (omega arith) (omega arith) c) (s (omega arith))
      | no c ↦
          let h = x.0 - P.left - P.right - P.shift in
          subst X (next-pair P ts Q x.0 (get_or ts (P.left_from + h / P.columns) 0) (get_or ts (P.right_from + h % P.columns) 0) (omega arith) (omega arith) (omega arith) refl refl)
          (p h (omega (arith, x.1)))
    ]
  ]
])

-- a product with something below it
positive : (a b k : ℕ) → k < a * b → 0 < b
positive a zero k h = absurd (omega arith)
positive a (suc b) k h = omega arith

module _ (R : Rows) (targets : List ℕ) (t m Q : ℕ) (bytes : List ℕ) (f a b : ℕ) where
  abbrev x : Side
  x = side_of R.member R.first a

  abbrev y : Side
  y = side_of R.member R.first b

  abbrev plan : Plan
  plan = plan_for R t m Q f a b x y

  left-block : (0 < alone_of R.ahead t m f x b → LeftHeld R targets m Q bytes f a b) → (h : ℕ) → h < plan.left
      → is_set bytes (plan.left_base + get_or targets (plan.left_from + h) 0 * Q) ≡ true
  left-block l h k = (l (omega arith)).each h (omega (arith, k, alone_le R.ahead t m f x b))

  right-block : (0 < alone_of R.ahead t m f y a → RowHeld R.first targets Q bytes (get_or R.member b 0) (layer_after m f y * Q + a))
      → (h : ℕ) → h < plan.right → is_set bytes (plan.right_base + get_or targets (plan.right_from + h) 0) ≡ true
  right-block r h k =
      ap (is_set bytes) (horner Q (layer_after m f y) a (get_or targets (plan.right_from + h) 0))
      ∙ (r (omega arith)).each h (omega (arith, k, alone_le R.ahead t m f y a))

  pair-block : (0 < pairs_of R.number m f a b x y → PairsHeld R.first targets Q bytes (get_or R.member a 0) (get_or R.member b 0))
      → (h : ℕ) → h < pairs_of R.number m f a b x y → is_set bytes (pair_at plan targets Q h) ≡ true
  pair-block p h k =
      let l : h < x.span * y.span = omega (arith, k, pairs_le R.number m f a b x y) in
      let z = positive x.span y.span h l in
      let u = get_or targets (x.from + h / y.span) 0 in
      let v = get_or targets (y.from + h % y.span) 0 in
      let e : Q * Q + u * Q + v ≡ (Q + u) * Q + v = omega (arith, add-mul Q u Q) in
      ap (is_set bytes) e ∙ (p (omega arith)).each (h / y.span) (h % y.span) ((div-lt_iff_lt-mul {k = y.span} {x = h} {y = x.span} z).1 l) (mod-lt h z)

  -- the four blocks are held
  blocks_held : a < Q → b < Q
      → (0 < alone_of R.ahead t m f x b → LeftHeld R targets m Q bytes f a b)
      → (0 < alone_of R.ahead t m f y a → RowHeld R.first targets Q bytes (get_or R.member b 0) (layer_after m f y * Q + a))
      → (0 < shift_of R.ahead t f a b → is_set bytes (index Q f (get_or R.after a 0) (get_or R.after b 0)) ≡ true)
      → (0 < pairs_of R.number m f a b x y → PairsHeld R.first targets Q bytes (get_or R.member a 0) (get_or R.member b 0))
      → ClosedAt R targets t m Q bytes (index Q f a b)
  blocks_held ha hb l r s p = record {
    each = λ j h.
        by_blocks plan targets Q (pairs_of R.number m f a b x y) refl (λ (j : ℕ). is_set bytes j ≡ true) (left-block l) (right-block r) s
        (pair-block p) j (subst (λ (P : Plan). Has P targets Q j) (sym (plan-digits R t m Q f a b ha hb)) h);
  }

  -- a shift leads to a triple
  pub beside_in : Verified R targets t m Q → f ≤ 1 → a < Q → b < Q → 0 < shift_of R.ahead t f a b
      → index Q f (get_or R.after a 0) (get_or R.after b 0) < triple_count Q
  beside_in v hf ha hb h =
      let k = plan.left + plan.right in
      let n = next_shift plan targets Q k (omega arith) (omega arith) (omega arith) in
      let i = subst (λ (P : Plan). k < P.total → next_of P targets Q k < triple_count Q) (sym (plan-digits R t m Q f a b ha hb))
      (v.inside (index Q f a b) k (index_below Q f a b (omega arith) ha hb)) (omega arith) in
      omega (arith, n, i)

  -- a column that the rows of all targets of a hold
  pub left_near : (base w c : ℕ) → a < Q → b + c < Q → c < wide_bits → Verified R targets t m Q → triple_count Q ≤ 8 * length bytes
      → base ≡ index Q (layer_after m f x) 0 b → Met bytes targets Q x.from x.span base w → w / 2 ^ c % 2 ≡ 1 → LeftHeld R targets m Q bytes f a (b + c)
  left_near base w c ha hb hc v long q s o = record { each = each }
    where
      each : (k : ℕ) → k < x.span → is_set bytes (layer_after m f x * (Q * Q) + (b + c) + get_or targets (x.from + k) 0 * Q) ≡ true
      each k l =
          let u = get_or targets (x.from + k) 0 in
          let e : layer_after m f x * (Q * Q) + (b + c) + u * Q ≡ base + u * Q + c = omega (arith, q) in
          let h = index_below Q (layer_after m f x) u (b + c) (omega (arith, layer_le m f x)) (target_in R targets t m Q a k v ha l) hb in
          ap (λ (n : ℕ). eqb n 1) (ap (bit bytes) e ∙ s.held c k hc o l (omega (arith, h, e, long)))

  -- a row that is looked at for all targets of a lies in the certificate
  pub rows_in_lem : (base : ℕ) → a < Q → b < Q → Verified R targets t m Q → base ≡ index Q (layer_after m f x) 0 b
      → (k : ℕ) → k < x.span → base + get_or targets (x.from + k) 0 * Q < triple_count Q
  rows_in_lem base ha hb v q k l =
      let u = get_or targets (x.from + k) 0 in
      let h = index_below Q (layer_after m f x) u b (omega (arith, layer_le m f x)) (target_in R targets t m Q a k v ha l) hb in
      omega (arith, h, q)

-- the four blocks of numbers and sides that the calls give
pub column_closed : (R : Rows) (targets : List ℕ) (t m Q : ℕ) (bytes : List ℕ) (f a b : ℕ) (x y : Side) (layer left right shift pairs : ℕ)
    → a < Q → b < Q → x ≡ side_of R.member R.first a → y ≡ side_of R.member R.first b → layer ≡ layer_after m f y
    → left ≡ alone_of R.ahead t m f x b → right ≡ alone_of R.ahead t m f y a → shift ≡ shift_of R.ahead t f a b
    → pairs ≡ pairs_of R.number m f a b x y
    → (0 < left → LeftHeld R targets m Q bytes f a b) → (0 < right → RowHeld R.first targets Q bytes y.kind (layer * Q + a))
    → (0 < shift → is_set bytes (index Q f (get_or R.after a 0) (get_or R.after b 0)) ≡ true) → (0 < pairs → PairsHeld R.first targets Q bytes x.kind y.kind)
    → ClosedAt R targets t m Q bytes (index Q f a b)
column_closed R targets t m Q bytes f a b x y layer left right shift pairs ha hb ex ey el e1 e2 e3 e4 l r s p =
    blocks_held R targets t m Q bytes f a b ha hb (λ h. l (subst (λ (n : ℕ). 0 < n) (sym (e1 ∙ ap (λ (s : Side). alone_of R.ahead t m f s b) ex)) h))
    (λ h. subst (λ (n : ℕ). RowHeld R.first targets Q bytes (get_or R.member b 0) (n * Q + a)) (el ∙ ap (layer_after m f) ey)
    (subst (λ (c : ℕ). RowHeld R.first targets Q bytes c (layer * Q + a)) (ap (λ (s : Side). s.kind) ey)
    (r (subst (λ (n : ℕ). 0 < n) (sym (e2 ∙ ap (λ (s : Side). alone_of R.ahead t m f s a) ey)) h))))
    (λ h. s (subst (λ (n : ℕ). 0 < n) (sym e3) h))
    (λ h. subst (λ (c : ℕ). PairsHeld R.first targets Q bytes c (get_or R.member b 0)) (ap (λ (s : Side). s.kind) ex)
    (subst (λ (c : ℕ). PairsHeld R.first targets Q bytes x.kind c) (ap (λ (s : Side). s.kind) ey)
    (p (subst (λ (n : ℕ). 0 < n) (sym (e4 ∙ ap (λ (s : Side). pairs_of R.number m f a b s y) ex
    ∙ ap (pairs_of R.number m f a b (side_of R.member R.first a)) ey)) h))))

-- what is asked for, and what is learnt, of the rows of all targets of a, from what the calls give
module _ (R : Rows) (targets : List ℕ) (t m Q f a b : ℕ) (x : Side) (layer base : ℕ) (v : Verified R targets t m Q) (ha : a < Q)
    (ex : x ≡ side_of R.member R.first a) (el : layer ≡ layer_after m f x) (eb : base ≡ index Q layer 0 b) where
  based : base ≡ index Q (layer_after m f (side_of R.member R.first a)) 0 b
  based = eb ∙ ap (λ (n : ℕ). index Q n 0 b) (el ∙ ap (layer_after m f) ex)

  pub meet_fits : b < Q → (x.from + x.span ≤ limits.max_states) × (base ≤ 2 * most_square)
      × ((k : ℕ) → k < x.span → base + get_or targets (x.from + k) 0 * Q < triple_count Q)
  meet_fits hb = (
    subst (λ (s : Side). s.from + s.span ≤ limits.max_states) (sym ex) (let s = v.fits.side a ha in omega (arith, s.order, s.inside)),
    (let l = layer_le m f (side_of R.member R.first a) in
        let h = index_below Q (layer_after m f (side_of R.member R.first a)) 0 b (omega (arith, l)) (omega arith) hb in
        omega (arith, based, h, product_le Q Q v.fits.few v.fits.few)),
    subst (λ (s : Side). (k : ℕ) → k < s.span → base + get_or targets (s.from + k) 0 * Q < triple_count Q) (sym ex)
        (rows_in_lem R targets t m Q [] f a b base ha hb v based),
  )

  pub near-held : (bytes : List ℕ) (w c : ℕ) → b + c < Q → c < wide_bits → triple_count Q ≤ 8 * length bytes
      → Met bytes targets Q x.from x.span base w → w / 2 ^ c % 2 ≡ 1 → LeftHeld R targets m Q bytes f a (b + c)
  near-held bytes w c hb hc long s o =
      left_near R targets t m Q bytes f a b base w c ha hb hc v long based (subst (λ (s : Side). Met bytes targets Q s.from s.span base w) ex s) o

-- a mask of n bits, as a shift makes it
pub wide_mask : (n : ℕ) → n ≤ wide_bits → (1 * 2 ^ n) % 2 ^ 64 ≡ 2 ^ n
wide_mask n h = shl_exact 1 n 64 (omega arith) (omega arith) ∙ one-mul (2 ^ n)

-- ---- columns one after the other

module _ (R : Rows) (targets : List ℕ) (t m Q : ℕ) (bytes : List ℕ) (i : ℕ) where
  pub closed_none : ClosedFrom R targets t m Q bytes i 0
  closed_none = record { each = λ c l s. absurd (omega arith) }

  -- column c + k is the next that is held
  pub closed-more : (c k e w : ℕ) → ClosedFrom R targets t m Q bytes i c → Window bytes (i + c) e w → LowestOne w k
      → ClosedAt R targets t m Q bytes (i + (c + k)) → ClosedFrom R targets t m Q bytes i (c + k + 1)
  closed-more c k e w old s o new = record { each = each }
    where
      each : (d : ℕ) → d < c + k + 1 → is_set bytes (i + d) ≡ true → ClosedAt R targets t m Q bytes (i + d)
      each d l h = elim (dec_lt d c) [
        | yes y ↦ old.each d y h
        | no n ↦ elim (dec_lt d (c + k)) [
          | yes y ↦ no_bool (sym h ∙ lowest_clear bytes (i + c) e w k s o (i + d) (omega arith) (omega arith))
          | no g ↦ let q : i + (c + k) ≡ i + d = omega arith in subst (ClosedAt R targets t m Q bytes) q new
        ]
      ]

  -- no further one is
  pub closed-end : (c n w : ℕ) → ClosedFrom R targets t m Q bytes i c → Window bytes (i + c) (i + n) w → w ≡ 0 → ClosedFrom R targets t m Q bytes i n
  closed-end c n w old s z = record { each = each }
    where
      each : (d : ℕ) → d < n → is_set bytes (i + d) ≡ true → ClosedAt R targets t m Q bytes (i + d)
      each d l h = elim (dec_lt d c) [
        | yes y ↦ old.each d y h
        | no g ↦ no_bool (sym h ∙ window_clear bytes (i + c) (i + n) w s z (i + d) (omega arith) (omega arith))
      ]
