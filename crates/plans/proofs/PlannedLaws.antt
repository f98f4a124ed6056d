-- The plans of the rows that crate moves builds list exactly the successors. Assumes nothing.
use mathlib.Core.Path.{◌≡◌, refl, ap, sym, subst, subst₂, ◌∙◌}
use mathlib.Core.Logic.{inl, inr, ◌↔◌}
use mathlib.Core.Bool.{true, ◌&&◌}
use mathlib.Core.List.{List}
use Prim.Native.Nat.{ℕ, zero, suc, ◌+◌, ◌-◌, ◌*◌, ◌/◌, ◌%◌, ◌≤◌, ◌<◌}
use native.Mathlib.Omega.{arith}
use native.Mathlib.Decide.{dec_lt}
use native.Mathlib.Nat.{mod-lt, div-lt_iff_lt-mul, mul-add-div_right, mul-add-mod_self_right, div-eq_of_lt, mod-eq_of_lt}
use lib.Dec.{leb}
use lib.ListN.{length, get_or, take, drop, length-drop}
use lib.Seq.{length-take-le, get_or-take, get_or-drop}
use Rattle.grammar.specs.Basics.{Mem}
use Rattle.grammar.specs.Limits.{limits}
use Rattle.grammar.specs.Grammar.{Terminal}
use Rattle.automaton.specs.Moves.{Moves, terminal_ahead, listed, Regular}
use Rattle.triples.specs.Index.{index, triple_count, layer_of, left_of, right_of}
use Rattle.triples.specs.Successor.{BeforeTerminal, StepTo, Successor, open_left, open_right, shift_both, part-both, part_left, part_right, close-left, close-right, read-both}
use Rattle.triples.specs.Smallest.{successors}
use Rattle.triples.specs.declared.Move.{Move}
use Rattle.triples.specs.declared.Move.TheVariants.{Opening, Closing, Symbol, Still}
use Rattle.triples.proofs.Index.{pair_lt, Digits, digits}
use Rattle.triple_laws.proofs.Members.{mem_place, place_mem}
use Rattle.triple_laws.proofs.Records.{successors_exact, successors-below}
use Rattle.triple_laws.proofs.Choices.{terminal-ahead}
use Rattle.moves.specs.Tables.{segment, Tables, reads_at}
use Rattle.moves.specs.Shows.{Opened, Closed, Alone, Shows}
use Rattle.plans.specs.declared.Side.{Side}
use Rattle.plans.specs.declared.Plan.{Plan}
use Rattle.plans.specs.Plan.{Rows, rows, side_of, alone_of, layer_after, shift_of, pairs_of, plan_for, plan_of, next_of}
use Rattle.plans.specs.Clauses.{SideFits, Safe, Verified, Lists}
use Rattle.plans.proofs.PlanLaws.{alone_le, layer_le, pairs_le, layer_times, product_le, next-left, next-right, next_shift, next-pair}
use Rattle.plans.proofs.BlockLaws.{alone-opens, alone-later, alone-beside, alone_reads, layer-opens, layer-closes, layer-later, shift_facts, shift_is, any-symbol, a-terminal, terminal-a, pairs_facts, pairs_is, pairs-later, opens-layer}

-- a product with something below it
positive : (a b k : ℕ) → k < a * b → 0 < b
positive a zero k h = absurd (omega arith)
positive a (suc b) k h = omega arith

-- sums in another order
pub swapped : (x y z : ℕ) → x + y + z ≡ x + z + y
swapped x y z = omega arith

-- a pair of numbers as one, and back
pub quotient : (x b y : ℕ) → y < b → (x * b + y) / b ≡ x
quotient x b y h = mul-add-div_right (omega arith) x y ∙ ap (λ (z : ℕ). x + z) (div-eq_of_lt h) ∙ omega arith

pub remainder : (x b y : ℕ) → y < b → (x * b + y) % b ≡ y
remainder x b y h = mul-add-mod_self_right x b y ∙ mod-eq_of_lt h

module _ (M : Moves) (R : Regular M) (t m : ℕ) (new : Tables) (X : Shows M t m new) (long : limits.max_states ≤ length new.targets) where
  abbrev Q : ℕ
  Q = M.states

  abbrev N : Rows
  N = rows new.ahead new.number new.member new.first new.after

  abbrev ts : List ℕ
  ts = new.targets

  abbrev side : ℕ → Side
  side p = side_of new.member new.first p

  pub fits_at : (p : ℕ) → p < Q → SideFits new.member new.first p
  fits_at p h = record {
    state = omega (arith, X.few);
    class = omega (arith, X.class p h, X.kinds);
    order = X.order p h;
    inside = omega (arith, X.inside p h, X.few);
  }

  -- the targets of a state stand in its segment
  abbrev pub part : ℕ → List ℕ
  part p = take (side p).span (drop (side p).from ts)

  -- its states are those to which p moves alone
  pub part-moves : (p u : ℕ) → p < Q → Mem u (part p) ↔ Alone M p u
  unfolding segment
  part-moves p u h = X.targets p u h

  pub part_length : (p : ℕ) → p < Q → length (part p) ≡ (side p).span
  part_length p h =
      let f = fits_at p h in
      length-take-le (side p).span (drop (side p).from ts) (omega (arith, length-drop (side p).from ts, f.order, f.inside))

  pub part_at : (p k : ℕ) → k < (side p).span → get_or (part p) k 0 ≡ get_or ts ((side p).from + k) 0
  part_at p k h = get_or-take (side p).span (drop (side p).from ts) k 0 h ∙ get_or-drop (side p).from ts k 0

  abbrev pub cell : ℕ → ℕ → ℕ
  cell p k = get_or ts ((side p).from + k) 0

  pub cell-target : (p k : ℕ) → p < Q → k < (side p).span → Alone M p (cell p k)
  cell-target p k h l =
      (part-moves p (cell p k) h).0 (subst (λ (u : ℕ). Mem u (part p)) (part_at p k l) (place_mem (part p) k 0 (omega (arith, part_length p h))))

  target-cell : (p u : ℕ) → p < Q → Alone M p u → (k : ℕ) × (k < (side p).span) × (cell p k ≡ u)
  target-cell p u h a =
      let r = mem_place 0 ((part-moves p u h).1 a) in
      let l : r.0 < (side p).span = omega (arith, r.1, part_length p h) in
      (r.0, l, sym (part_at p r.0 l) ∙ r.2)

  -- opening classes are not below m, closing classes are
  pub opens-kind : {i p u : ℕ} → p < Q → Opened M i p u → m ≤ (side p).kind
  opens-kind {i} {p} {u} h o = X.opens_class i p u h o

  pub closes-kind : {i p u : ℕ} → p < Q → Closed M i p u → (side p).kind < m
  closes-kind {i} {p} {u} h o = X.closes_class i p u h o

  pub reads_is : (p : ℕ) → p < Q → reads_at new.ahead t p ≡ terminal_ahead M p
  reads_is p h = ap (λ (x : ℕ). leb 1 x && leb x t) (X.ahead p h) ∙ ap (λ (t : ℕ). leb 1 (M.ahead p) && leb (M.ahead p) t) X.terminals

  pub reads_before : (p : ℕ) → p < Q → reads_at new.ahead t p ≡ true → BeforeTerminal (listed M) p
  reads_before p h e = (terminal-ahead M p).0 (sym (reads_is p h) ∙ e)

  before_reads : (p : ℕ) → p < Q → BeforeTerminal (listed M) p → reads_at new.ahead t p ≡ true
  before_reads p h b = reads_is p h ∙ (terminal-ahead M p).1 b

  abbrev past : ℕ → ℕ
  past p = get_or new.after p 0

  shift_at : (x p u : ℕ) → p < Q → ((M.ahead p ≡ x) × (1 ≤ x) × (u ≡ M.after p)) ↔ ((get_or new.ahead p 0 ≡ x) × (1 ≤ x) × (u ≡ past p))
  shift_at x p u h =
      let e = X.ahead p h in (
        λ r. (e ∙ r.0, r.1, r.2 ∙ sym (X.after p h (omega (arith, r.0, r.1)))),
        λ r.
            let a : M.ahead p ≡ x = sym e ∙ r.0 in (a, r.1, r.2 ∙ X.after p h (omega (arith, a, r.1))),
      )

  number_of_lem : {i p u : ℕ} → p < Q → Closed M i p u → get_or new.number p 0 ≡ i
  number_of_lem {i} {p} {u} h o = X.closes_number i p u h o

  -- j is the index of a successor
  abbrev Reaches : ℕ → ℕ → ℕ → ℕ → Type 0
  Reaches f p q j = (g u v : ℕ) × (j ≡ index Q g u v) × Successor (listed M) f p q g u v

  -- ---- each entry of a plan is a successor

  left-each : (f p q k : ℕ) → f < 2 → p < Q → q < Q → k < alone_of new.ahead t m f (side p) q
      → Reaches f p q (layer_after m f (side p) * (Q * Q) + q + cell p k * Q)
  left-each zero p q k hf hp hq l =
      let u = cell p k in
      let a = cell-target p k hp (omega (arith, alone_le new.ahead t m 0 (side p) q)) in
      elim a [
        | inl o ↦ (
          0,
          u,
          q,
          ap (λ (n : ℕ). n * (Q * Q) + q + u * Q) (layer-opens new.ahead t m (side p) q (opens-kind hp o.1)) ∙ swapped (0 * (Q * Q)) q (u * Q),
          (Opening o.0, Still, open_left o.1),
        )
        | inr o ↦ (
          1,
          u,
          q,
          ap (λ (n : ℕ). n * (Q * Q) + q + u * Q) (layer-closes new.ahead t m (side p) q (closes-kind hp o.1)) ∙ swapped (1 * (Q * Q)) q (u * Q),
          (Closing o.0, Still, part_left o.1 (reads_before q hq (alone_reads new.ahead t m (side p) q k l (closes-kind hp o.1)))),
        )
      ]
  left-each (suc zero) p q k hf hp hq l =
      let u = cell p k in
      let a = cell-target p k hp (omega (arith, alone_le new.ahead t m 1 (side p) q)) in
      let e = ap (λ (n : ℕ). n * (Q * Q) + q + u * Q) (layer-later new.ahead t m (side p) q) ∙ swapped (1 * (Q * Q)) q (u * Q) in
      elim a [
        | inl o ↦ (1, u, q, e, (Opening o.0, Still, open_left o.1))
        | inr o ↦ (1, u, q, e, (Closing o.0, Still, close-left o.1))
      ]
  left-each (suc (suc f)) p q k hf hp hq l = absurd (omega arith)

  right-each : (f p q k : ℕ) → f < 2 → p < Q → q < Q → k < alone_of new.ahead t m f (side q) p
      → Reaches f p q (layer_after m f (side q) * (Q * Q) + p * Q + cell q k)
  right-each zero p q k hf hp hq l =
      let u = cell q k in
      let a = cell-target q k hq (omega (arith, alone_le new.ahead t m 0 (side q) p)) in
      elim a [
        | inl o ↦ (
          0,
          p,
          u,
          ap (λ (n : ℕ). n * (Q * Q) + p * Q + u) (layer-opens new.ahead t m (side q) p (opens-kind hq o.1)),
          (Still, Opening o.0, open_right o.1),
        )
        | inr o ↦ (
          1,
          p,
          u,
          ap (λ (n : ℕ). n * (Q * Q) + p * Q + u) (layer-closes new.ahead t m (side q) p (closes-kind hq o.1)),
          (Still, Closing o.0, part_right o.1 (reads_before p hp (alone_reads new.ahead t m (side q) p k l (closes-kind hq o.1)))),
        )
      ]
  right-each (suc zero) p q k hf hp hq l =
      let u = cell q k in
      let a = cell-target q k hq (omega (arith, alone_le new.ahead t m 1 (side q) p)) in
      let e = ap (λ (n : ℕ). n * (Q * Q) + p * Q + u) (layer-later new.ahead t m (side q) p) in
      elim a [
        | inl o ↦ (1, p, u, e, (Still, Opening o.0, open_right o.1))
        | inr o ↦ (1, p, u, e, (Still, Closing o.0, close-right o.1))
      ]
  right-each (suc (suc f)) p q k hf hp hq l = absurd (omega arith)

  shift_each : (f p q : ℕ) → f < 2 → p < Q → q < Q → 0 < shift_of new.ahead t f p q → Reaches f p q (index Q f (past p) (past q))
  shift_each zero p q hf hp hq l =
      let x = get_or new.ahead p 0 in
      let s = shift_facts new.ahead t 0 p q l in
      (0, past p, past q, refl, (Symbol x, Symbol x, shift_both ((shift_at x p (past p) hp).1 (refl, s.0, refl)) ((shift_at x q (past q) hq).1 (sym s.1, s.0, refl))))
  shift_each (suc zero) p q hf hp hq l =
      let x = get_or new.ahead p 0 in
      let s = shift_facts new.ahead t 1 p q l in
      let b = reads_before p hp (a-terminal (reads_at new.ahead t p) s.2) in
      let y = (shift_at b.0 p b.2.0 hp).0 b.2.1 in
      (1, past p, past q, refl, (Symbol x, Symbol x, read-both (subst (Terminal M.terminals) (sym y.0) b.1) ((shift_at x p (past p) hp).1 (refl, s.0, refl)) ((shift_at x q (past q) hq).1 (sym s.1, s.0, refl))))
  shift_each (suc (suc f)) p q hf hp hq l = absurd (omega arith)

  closing-cell : (p k : ℕ) → p < Q → k < (side p).span → (side p).kind < m → (i : ℕ) × Closed M i p (cell p k)
  closing-cell p k h l c = elim (cell-target p k h l) [
    | inl o ↦ absurd (let z : ⊥ = omega (arith, opens-kind h o.1) in z)
    | inr o ↦ o
  ]

  pair-each : (f p q k : ℕ) → f < 2 → p < Q → q < Q → k < pairs_of new.number m f p q (side p) (side q)
      → Reaches f p q (Q * Q + cell p (k / (side q).span) * Q + cell q (k % (side q).span))
  pair-each zero p q k hf hp hq l =
      let c = pairs_facts new.number m p q (side p) (side q) k l in
      let z : 0 < (side q).span = positive (side p).span (side q).span k c.3 in
      let x = closing-cell p (k / (side q).span) hp ((div-lt_iff_lt-mul z).1 c.3) c.0 in
      let y = closing-cell q (k % (side q).span) hq (mod-lt k z) c.1 in (
        1,
        cell p (k / (side q).span),
        cell q (k % (side q).span),
        omega arith,
        (Closing x.0, Closing y.0, part-both (λ e. c.2 (number_of_lem hp x.1 ∙ e ∙ sym (number_of_lem hq y.1))) x.1 y.1),
      )
  pair-each (suc zero) p q k hf hp hq l = absurd (let z : ⊥ = omega (arith, pairs-later new.number m p q (side p) (side q)) in z)
  pair-each (suc (suc f)) p q k hf hp hq l = absurd (omega arith)

  abbrev plan : ℕ → ℕ → ℕ → ℕ → Plan
  plan i f p q = plan_for N t m Q f p q (side p) (side q)

  each_reaches : (i f p q k : ℕ) → i ≡ index Q f p q → f < 2 → p < Q → q < Q → k < (plan i f p q).total → Reaches f p q (next_of (plan i f p q) ts Q k)
  each_reaches i f p q k e hf hp hq h = elim (dec_lt k P.left) [
    | yes l ↦ subst (Reaches f p q) (next-left P ts Q k (cell p k) l refl) (left-each f p q k hf hp hq l)
    | no a ↦ elim (dec_lt (k - P.left) P.right) [
      | yes l ↦ subst (Reaches f p q) (next-right P ts Q k (cell q (k - P.left)) (omega arith) l refl) (right-each f p q (k - P.left) hf hp hq l)
      | no b ↦ elim (dec_lt (k - P.left - P.right) P.shift) [
        | yes l ↦ subst (Reaches f p q) (next_shift P ts Q k (omega arith) (omega arith) l) (shift_each f p q hf hp hq (omega arith))
        | no c ↦
            let o = k - P.left - P.right - P.shift in
            subst (Reaches f p q) (next-pair P ts Q k (cell p (o / (side q).span)) (cell q (o % (side q).span)) (omega arith) (omega arith) (omega arith) refl refl)
            (pair-each f p q o hf hp hq (omega arith))
      ]
    ]
  ]
    where
      P : Plan
      P = plan i f p q

  -- ---- each successor is an entry of the plan

  abbrev Listed : Plan → ℕ → Type 0
  Listed P j = (k : ℕ) × (k < P.total) × (next_of P ts Q k ≡ j)

  left-listed : (i f p q u g : ℕ) → p < Q → alone_of new.ahead t m f (side p) q ≡ (side p).span → layer_after m f (side p) ≡ g
      → Alone M p u → Listed (plan i f p q) (index Q g u q)
  left-listed i f p q u g hp a b x =
      let c = target-cell p u hp x in
      let l : c.0 < alone_of new.ahead t m f (side p) q = omega (arith, a, c.1) in (
        c.0,
        omega (arith, l),
        sym (next-left (plan i f p q) ts Q c.0 u l (sym c.2)) ∙ ap (λ (n : ℕ). n * (Q * Q) + q + u * Q) b ∙ swapped (g * (Q * Q)) q (u * Q),
      )

  right-listed : (i f p q u g : ℕ) → q < Q → alone_of new.ahead t m f (side q) p ≡ (side q).span → layer_after m f (side q) ≡ g
      → Alone M q u → Listed (plan i f p q) (index Q g p u)
  right-listed i f p q u g hq a b x =
      let c = target-cell q u hq x in
      let x = alone_of new.ahead t m f (side p) q in
      let l : c.0 < alone_of new.ahead t m f (side q) p = omega (arith, a, c.1) in
      let e : x + c.0 - x ≡ c.0 = omega arith in (
        x + c.0,
        omega (arith, l),
        sym (next-right (plan i f p q) ts Q (x + c.0) u (omega arith) (omega (arith, l, e)) (sym (ap (cell q) e ∙ c.2))) ∙ ap (λ (n : ℕ). n * (Q * Q) + p * Q + u) b,
      )

  shift_listed : (i f p q : ℕ) → i ≡ index Q f p q → shift_of new.ahead t f p q ≡ 1 → Listed (plan i f p q) (index Q f (past p) (past q))
  shift_listed i f p q e s =
      let x = alone_of new.ahead t m f (side p) q in
      let y = alone_of new.ahead t m f (side q) p in
      (x + y, omega (arith, s), sym (next_shift (plan i f p q) ts Q (x + y) (omega arith) (omega arith) (omega (arith, s))))

  pair-listed : (i p q u v : ℕ) → p < Q → q < Q → (side p).kind < m → (side q).kind < m → (get_or new.number p 0 ≡ get_or new.number q 0 → ⊥)
      → Alone M p u → Alone M q v → Listed (plan i 0 p q) (index Q 1 u v)
  pair-listed i p q u v hp hq kp kq n a b =
      let c = target-cell p u hp a in
      let d = target-cell q v hq b in
      let s = (side q).span in
      let x = alone_of new.ahead t m 0 (side p) q in
      let y = alone_of new.ahead t m 0 (side q) p in
      let z = shift_of new.ahead t 0 p q in
      let k = c.0 * s + d.0 in
      let K = x + y + z + k in
      let o : K - x - y - z ≡ k = omega arith in
      let l = pair_lt (side p).span s c.0 d.0 c.1 d.1 in
      let w = pairs_is new.number m p q (side p) (side q) kp kq n in
      let eu : (K - x - y - z) / s ≡ c.0 = ap (λ (j : ℕ). j / s) o ∙ quotient c.0 s d.0 d.1 in
      let ev : (K - x - y - z) % s ≡ d.0 = ap (λ (j : ℕ). j % s) o ∙ remainder c.0 s d.0 d.1 in
      let f : Q * Q + u * Q + v ≡ index Q 1 u v = omega arith in (
        K,
        omega (arith, l, w),
        sym (next-pair (plan i 0 p q) ts Q K u v (omega arith) (omega arith) (omega arith) (sym (ap (cell p) eu ∙ c.2)) (sym (ap (cell q) ev ∙ d.2))) ∙ f,
      )

  moves-to : {i p u : ℕ} → p < Q → Opened M i p u → Alone M p u
  moves-to {i} {p} {u} hp o = inl (i, o)

  closes-to : {i p u : ℕ} → p < Q → Closed M i p u → Alone M p u
  closes-to {i} {p} {u} hp o = inr (i, o)

  all_listed : (i : ℕ) {f p q g u v : ℕ} {l r : Move} → i ≡ index Q f p q → f < 2 → p < Q → q < Q
      → StepTo (listed M) f p q g u v l r → Listed (plan i f p q) (index Q g u v)
  all_listed i {f} {p} {q} {u = u} e hf hp hq (open_left o) =
      left-listed i f p q u f hp (alone-opens new.ahead t m (side p) q f (opens-kind hp o)) (opens-layer new.ahead t m (side p) q f hf (opens-kind hp o)) (moves-to hp o)
  all_listed i {f} {p} {q} {v = v} e hf hp hq (open_right o) =
      right-listed i f p q v f hq (alone-opens new.ahead t m (side q) p f (opens-kind hq o)) (opens-layer new.ahead t m (side q) p f hf (opens-kind hq o)) (moves-to hq o)
  all_listed i {p = p} {q = q} {u = u} {v = v} e hf hp hq (shift_both {x = x} a b) =
      let c = (shift_at x p u hp).0 a in
      let d = (shift_at x q v hq).0 b in
      subst₂ (λ (u v : ℕ). Listed (plan i 0 p q) (index Q 0 u v)) (sym c.2) (sym d.2)
      (shift_listed i 0 p q e (shift_is new.ahead t 0 p q (omega (arith, c.0, c.1)) (c.0 ∙ sym d.0) (any-symbol (reads_at new.ahead t p))))
  all_listed i {p = p} {q = q} {u = u} {v = v} e hf hp hq (part-both n a b) =
      pair-listed i p q u v hp hq (closes-kind hp a) (closes-kind hq b) (λ x. n (sym (number_of_lem hp a) ∙ x ∙ number_of_lem hq b)) (closes-to hp a) (closes-to hq b)
  all_listed i {p = p} {q = q} {u = u} e hf hp hq (part_left a b) =
      left-listed i 0 p q u 1 hp (alone-beside new.ahead t m (side p) q (before_reads q hq b)) (layer-closes new.ahead t m (side p) q (closes-kind hp a)) (closes-to hp a)
  all_listed i {p = p} {q = q} {v = v} e hf hp hq (part_right a b) =
      right-listed i 0 p q v 1 hq (alone-beside new.ahead t m (side q) p (before_reads p hp b)) (layer-closes new.ahead t m (side q) p (closes-kind hq a)) (closes-to hq a)
  all_listed i {p = p} {q = q} {u = u} e hf hp hq (close-left a) =
      left-listed i 1 p q u 1 hp (alone-later new.ahead t m (side p) q) (layer-later new.ahead t m (side p) q) (closes-to hp a)
  all_listed i {p = p} {q = q} {v = v} e hf hp hq (close-right a) =
      right-listed i 1 p q v 1 hq (alone-later new.ahead t m (side q) p) (layer-later new.ahead t m (side q) p) (closes-to hq a)
  all_listed i {p = p} {q = q} {u = u} {v = v} e hf hp hq (read-both {a = x} k a b) =
      let c = (shift_at x p u hp).0 a in
      let d = (shift_at x q v hq).0 b in
      subst₂ (λ (u v : ℕ). Listed (plan i 1 p q) (index Q 1 u v)) (sym c.2) (sym d.2)
      (shift_listed i 1 p q e (shift_is new.ahead t 1 p q (omega (arith, c.0, c.1)) (c.0 ∙ sym d.0)
      (terminal-a (reads_at new.ahead t p) (before_reads p hp (x, k, (u, a))))))

  some : 0 < Q
  some = omega (arith, R.four)

  pub lists : (i : ℕ) → i < triple_count Q → Lists (plan_of N t m Q i) ts Q (successors M i)
  unfolding plan_of
  lists i h = record {
    each = λ k l. subst (λ (j : ℕ). Mem (next_of (plan i f p q) ts Q k) (successors M j)) d.whole
        ((successors_exact M R f p q d.layer d.left d.right (next_of (plan i f p q) ts Q k)).1
        (each_reaches i f p q k (sym d.whole) d.layer d.left d.right l));
    all = λ j a.
        let x = (successors_exact M R f p q d.layer d.left d.right j).0 (subst (λ (i : ℕ). Mem j (successors M i)) (sym d.whole) a) in
        let r = all_listed i (sym d.whole) d.layer d.left d.right x.4.2 in
        (r.0, r.1, r.2 ∙ sym x.3);
  }
    where
      d : Digits Q i
      d = digits Q i some h

      f : ℕ
      f = layer_of Q i

      p : ℕ
      p = left_of Q i

      q : ℕ
      q = right_of Q i

  plan_safe : (i f p q : ℕ) → p < Q → q < Q → Safe (plan i f p q) Q
  plan_safe i f p q hp hq =
      let x = fits_at p hp in
      let y = fits_at q hq in
      let few : Q ≤ limits.max_states = X.few in
      let w = product_le Q Q few few in
      record {
        few = few;
        left = omega (arith, alone_le new.ahead t m f (side p) q, x.order, x.inside);
        right = omega (arith, alone_le new.ahead t m f (side q) p, y.order, y.inside);
        left-base = omega (arith, w, hq, few, layer_times (layer_after m f (side p)) (Q * Q) (layer_le m f (side p)));
        right-base = omega (arith, w, product_le p Q (omega arith) few, layer_times (layer_after m f (side q)) (Q * Q) (layer_le m f (side q)));
        pairs = λ k h.
            let l : k < (side p).span * (side q).span = omega (arith, pairs_le new.number m f p q (side p) (side q), h) in
            let z = positive (side p).span (side q).span k l in
            let e = (div-lt_iff_lt-mul z).1 l in
            (z, omega (arith, e, x.order, x.inside), omega (arith, y.order, y.inside));
      }

  pub safe_at : (i : ℕ) → i < triple_count Q → Safe (plan_of N t m Q i) Q
  unfolding plan_of
  safe_at i h = let d = digits Q i some h in plan_safe i (layer_of Q i) (left_of Q i) (right_of Q i) d.left d.right

  pub verified : Verified N ts t m Q
  verified = record {
    fits = record { four = R.four; few = X.few; side = fits_at };
    safe = safe_at;
    inside = λ i k h l. successors-below M R i (next_of (plan_of N t m Q i) ts Q k) h ((lists i h).each k l);
  }

-- the same with the number of states by itself
module _ (M : Moves) (R : Regular M) (t m Q : ℕ) (size : Q ≡ M.states) (new : Tables) (X : Shows M t m new)
    (long : limits.max_states ≤ length new.targets) where
  pub verified_of : Verified (rows new.ahead new.number new.member new.first new.after) new.targets t m Q
  verified_of =
      subst (λ (Q : ℕ). Verified (rows new.ahead new.number new.member new.first new.after) new.targets t m Q) (sym size)
      (verified M R t m new X long)
