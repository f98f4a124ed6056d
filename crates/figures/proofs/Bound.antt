-- What the search looks at is at most M² + 2×Q×M. Each pair of states p, q is charged with out(p)×out(q) + out(p) + out(q), out(p)
-- being the number of moves of p: this pays for the choices of (0,p,q) and (1,p,q) together where both are reached. There a side
-- stands before a symbol, or it closes and has a closing: an end that nothing has called is not reached in layer 0.
-- Assumes nothing.
use Prim.Native.Nat.{ℕ, ◌+◌, ◌*◌, ◌≤◌, ◌<◌}
use mathlib.Core.Path.{◌≡◌, refl, ap, ap₂, ◌∙◌}
use mathlib.Core.Bool.{Bool, true, false}
use mathlib.Core.Logic.{◌⊎◌, inl, inr}
use native.Mathlib.Omega.{arith}
use native.Mathlib.Nat.{mul-add, add-mul, mul_comm, mul-le-mul_left, mul-le-mul_right}
use lib.ListN.{length}
use Rattle.grammar.specs.Basics.{choose}
use Rattle.automaton.specs.Moves.{Moves, Regular, listed}
use Rattle.automaton.specs.AllMoves.{move_count}
use Rattle.triples.specs.Index.{index, triple_count}
use Rattle.triples.specs.Successor.{Reached}
use Rattle.triples.specs.Records.{choices}
use Rattle.triples.specs.Smallest.{is_element, successors, smallest}
use Rattle.triples.specs.Looked.{looked_at, looked_limit}
use Rattle.triple_laws.proofs.Explore.{is_element_lem}
use Rattle.triple_laws.proofs.Laws.{reached_exactly, smallest_distinct, smallest-below}
use Rattle.figures.specs.Sum.{sum}
use Rattle.figures.proofs.Sums.{sum_le, sum_same, sum-add, sum_times, sum_constant, sum-split, sum_rows, held, total-held}
use Rattle.figures.proofs.Lengths.{opens, closes, shifting, reading, out, moves-length, move_count_lem, zero-length, one-length, reading-shifts, successors-length}
use Rattle.figures.proofs.Opened.{Entered, Leavable, past-start, entered, Kind, before, ends, entered-kind}

-- products of sums of three
product : (a b c x y z : ℕ) → (a + b + c) * (x + y + z) ≡ a * x + a * y + a * z + (b * x + b * y + b * z) + (c * x + c * y + c * z)
product a b c x y z =
    let three : (k : ℕ) → k * (x + y + z) ≡ k * x + k * y + k * z = λ k. omega (arith, mul-add k (x + y) z, mul-add k x y) in
    omega (arith, add-mul (a + b) c (x + y + z), add-mul a b (x + y + z), three a, three b, three c)

-- what pays for one triple, and for two
pays_zero : (a c s t b d u v : ℕ) → t ≤ s → v ≤ u → a + b + s * u + c * d + v * c + t * d ≤ (a + c + s) * (b + d + u) + (a + c + s) + (b + d + u)
pays_zero a c s t b d u v h k =
    omega (arith, product a c s b d u, mul-le-mul_right c k, mul-le-mul_right d h, mul_comm u c)

pays_one : (a c s b d u : ℕ) → a + c + b + d + s * u ≤ (a + c + s) * (b + d + u) + (a + c + s) + (b + d + u)
pays_one a c s b d u = omega (arith, product a c s b d u)

module _ (M : Moves) where
  abbrev weight : ℕ → ℕ → ℕ
  weight p q = out M p * out M q + out M p + out M q

  weight_is : (p q : ℕ) → weight p q ≡ (opens M p + closes M p + shifting M p) * (opens M q + closes M q + shifting M q)
      + (opens M p + closes M p + shifting M p) + (opens M q + closes M q + shifting M q)
  weight_is p q = ap₂ (λ (x y : ℕ). x * y + x + y) (moves-length M p) (moves-length M q)

  zero_paid : (p q : ℕ) → length (choices M 0 p q) ≤ weight p q
  zero_paid p q =
      omega (
        arith,
        zero-length M p q,
        weight_is p q,
        pays_zero (opens M p) (closes M p) (shifting M p) (reading M p) (opens M q) (closes M q) (shifting M q) (reading M q) (reading-shifts M p) (reading-shifts M q),
      )

  one_paid : (p q : ℕ) → length (choices M 1 p q) ≤ weight p q
  one_paid p q =
      omega (arith, one-length M p q, weight_is p q, pays_one (opens M p) (closes M p) (shifting M p) (opens M q) (closes M q) (shifting M q))

  -- both, where either side stands before a symbol or closes
  both : (a c s t b d u v : ℕ) → ((c ≡ 0) × (s ≡ 1) × (t ≤ 1)) ⊎ ((a ≡ 0) × (s ≡ 0) × (t ≡ 0) × (1 ≤ c)) → ((d ≡ 0) × (u ≡ 1) × (v ≤ 1)) ⊎ ((b ≡ 0) × (u ≡ 0) × (v ≡ 0) × (1 ≤ d))
      → a + b + s * u + c * d + v * c + t * d + (a + c + b + d + s * u) ≤ (a + c + s) * (b + d + u) + (a + c + s) + (b + d + u)
  both a c s t b d u v (inl x) (inl y) = rw (x.0, x.1, y.0, y.1) (omega (arith, product a 0 1 b 0 1))
  both a c s t b d u v (inl x) (inr y) =
      rw (x.0, x.1, y.0, y.1, y.2) (omega (arith, product a 0 1 0 d 0, mul-le-mul_left a y.3, mul-le-mul_right d x.2))
  both a c s t b d u v (inr x) (inl y) =
      rw (x.0, x.1, x.2, y.0, y.1) (omega (arith, product 0 c 0 b 0 1, mul-le-mul_right b x.3, mul-le-mul_right c y.2))
  both a c s t b d u v (inr x) (inr y) = rw (x.0, x.1, x.2, y.0, y.1, y.2) (omega (arith, product 0 c 0 0 d 0))

  facts : (p : ℕ) → Kind M p → ((closes M p ≡ 0) × (shifting M p ≡ 1) × (reading M p ≤ 1)) ⊎ ((opens M p ≡ 0) × (shifting M p ≡ 0) × (reading M p ≡ 0) × (1 ≤ closes M p))
  facts p (before x y) = inl (x, y, omega (arith, reading-shifts M p, y))
  facts p (ends x y z w) = inr (x, y, z, w)

  both_paid : (p q : ℕ) → Kind M p → Kind M q → length (choices M 0 p q) + length (choices M 1 p q) ≤ weight p q
  both_paid p q x y =
      omega (
        arith,
        zero-length M p q,
        one-length M p q,
        weight_is p q,
        both (opens M p) (closes M p) (shifting M p) (reading M p) (opens M q) (closes M q) (shifting M q) (reading M q) (facts p x) (facts q y),
      )

  -- the weights of all pairs
  row-weight : (p : ℕ) → sum (weight p) M.states ≡ out M p * sum (out M) M.states + M.states * out M p + sum (out M) M.states
  row-weight p =
      omega (
        arith,
        sum-add (λ q. out M p * out M q + out M p) (out M) M.states,
        sum-add (λ q. out M p * out M q) (λ q. out M p) M.states,
        sum_times (out M p) (out M) M.states,
        sum_constant (out M p) M.states,
      )

  all-weight : sum (λ p. sum (weight p) M.states) M.states ≡ looked_limit M
  all-weight =
      let Q = M.states in
      let S = sum (out M) Q in
      let rows = sum_same (λ p. sum (weight p) Q) (λ p. out M p * S + Q * out M p + S) Q (λ p h. row-weight p) in
      let first : sum (λ p. out M p * S) Q ≡ S * S = sum_same (λ p. out M p * S) (λ p. S * out M p) Q (λ p h. mul_comm (out M p) S) ∙ sum_times S (out M) Q in
      let e : move_count M * move_count M + 2 * (Q * move_count M) ≡ S * S + 2 * (Q * S) = ap (λ (z : ℕ). z * z + 2 * (Q * z)) (move_count_lem M) in
      omega (arith, rows, sum-add (λ p. out M p * S + Q * out M p) (λ p. S) Q, sum-add (λ p. out M p * S) (λ p. Q * out M p) Q, first, sum_times Q (out M) Q, sum_constant S Q, e)

module _ (M : Moves) (R : Regular M) (E : Leavable M) where
  abbrev H : ℕ → ℕ
  H i = held (λ i. length (successors M i)) (smallest M) i

  pair_paid : (p q : ℕ) → p < M.states → q < M.states → H (index M.states 0 p q) + H (index M.states 1 p q) ≤ weight M p q
  pair_paid p q hp hq = go (is_element i (smallest M)) (is_element j (smallest M)) refl refl
    where
      i : ℕ
      i = index M.states 0 p q

      j : ℕ
      j = index M.states 1 p q

      reached : (f : ℕ) → f < 2 → is_element (index M.states f p q) (smallest M) ≡ true → Reached (listed M) f p q
      reached f h e = (reached_exactly M R f p q h hp hq).1 ((is_element_lem (index M.states f p q) (smallest M)).0 e)

      kind : (x : ℕ) → (x ≡ 0) ⊎ Entered M x → 0 < x → Kind M x
      kind x (inl z) h = absurd (omega arith)
      kind x (inr c) h = entered-kind M R E c

      go : (b c : Bool) → is_element i (smallest M) ≡ b → is_element j (smallest M) ≡ c
          → choose {A = ℕ} b (length (successors M i)) 0 + choose {A = ℕ} c (length (successors M j)) 0 ≤ weight M p q
      go true true e d =
          let c = entered M R E (reached 0 (omega arith) e) in
          let s = past-start M R E (reached 1 (omega arith) d) in
          omega (arith, successors-length M 0 p q hp hq, successors-length M 1 p q hp hq, both_paid M p q (kind p c.0 s.0) (kind q c.1 s.1))
      go true false e d = omega (arith, successors-length M 0 p q hp hq, zero_paid M p q)
      go false true e d = omega (arith, successors-length M 1 p q hp hq, one_paid M p q)
      go false false e d = omega arith

  -- the search looks at no more than M² + 2×Q×M successors
  pub looked_limit_lem : looked_at M ≤ looked_limit M
  unfolding looked_at
  looked_limit_lem =
      let Q = M.states in
      let N = Q * Q in
      let a = total-held (λ i. length (successors M i)) (smallest M) (triple_count Q) (smallest_distinct M R) (smallest-below M R) in
      let b : sum H (triple_count Q) ≡ sum H (N + N) = ap (sum H) (let q : triple_count Q ≡ N + N = omega arith in q) in
      let c = sum-split H N N in
      let d = sum-add H (λ i. H (N + i)) N in
      let e = sum_rows (λ i. H i + H (N + i)) Q Q in
      let f = sum_le (λ p. sum (λ q. H (p * Q + q) + H (N + (p * Q + q))) Q) (λ p. sum (weight M p) Q) Q
      (λ p hp. sum_le (λ q. H (p * Q + q) + H (N + (p * Q + q))) (weight M p) Q (λ q hq. at p q hp hq)) in
      omega (arith, a, b, c, d, e, f, all-weight M)
    where
      at : (p q : ℕ) → p < M.states → q < M.states → H (p * M.states + q) + H (M.states * M.states + (p * M.states + q)) ≤ weight M p q
      at p q hp hq =
          let x : index M.states 0 p q ≡ p * M.states + q = omega arith in
          let y : index M.states 1 p q ≡ M.states * M.states + (p * M.states + q) = omega arith in
          omega (arith, pair_paid p q hp hq, ap H x, ap H y)
