-- The moves of a state, counted off the rows; and the plan of an index has as many successors as the index. Assumes nothing.
use mathlib.Core.Path.{◌≡◌, refl, ap, ap₂, sym, subst, ◌∙◌}
use mathlib.Core.Logic.{◌⊎◌, inl, inr}
use mathlib.Core.Bool.{Bool, true, false, not, ◌&&◌}
use mathlib.Core.List.{List, [], ◌∷◌, ◌++◌, map}
use Prim.Native.Nat.{ℕ, zero, suc, ◌+◌, ◌*◌, ◌≤◌, ◌<◌}
use native.Mathlib.Omega.{arith}
use lib.Dec.{eqb, leb, ltb}
use lib.ListN.{length, get_or, length-append, length-map}
use borrow.Author.Tests.{ltb-true, ltb-false}
use Rattle.grammar.specs.Basics.{choose, when, each, Mem}
use Rattle.grammar.specs.Limits.{limits}
use Rattle.automaton.specs.Moves.{Moves, terminal_ahead, Regular}
use Rattle.triples.specs.Index.{triple_count, layer_of, left_of, right_of}
use Rattle.triples.specs.Records.{step, both_shift, both_close, choices}
use Rattle.triples.specs.Smallest.{successors}
use Rattle.triples.specs.declared.Move.TheVariants.{Closing, Symbol}
use Rattle.triples.specs.declared.Step.{Step}
use Rattle.triples.proofs.Index.{digits}
use Rattle.triple_laws.proofs.Members.{mem_left, mem_right, mem_either, of_map, distinct_append, distinct_image, distinct_same}
use Rattle.figures.proofs.Lengths.{one, some_in, none_in, pairs-one, pairs-none, opens, closes, reading, out, moves-length, zero_count, one_count, successors-length}
use Rattle.moves.specs.Tables.{Ascends, segment, Tables, reads_at}
use Rattle.moves.specs.Shows.{Shows}
use Rattle.moves.proofs.Places.{ascends_distinct}
use Rattle.plans.specs.declared.Side.{Side}
use Rattle.plans.specs.Plan.{Rows, rows, side_of, alone_of, shift_of, pairs_of, plan_for, plan_of}
use Rattle.plans.proofs.BlockLaws.{pairs-later}
use Rattle.plans.proofs.PlannedLaws.{part, part-moves, part_length, reads_is}

-- the states that moves lead to
abbrev ends : List (ℕ × ℕ) → List ℕ
ends l = map (λ (m : ℕ × ℕ). m.1) l

pair_path : {a b : ℕ × ℕ} → a.0 ≡ b.0 → a.1 ≡ b.1 → a ≡ b
pair_path p q = λ i. (p i, q i)

module _ (M : Moves) (S : Regular M) (t m : ℕ) (new : Tables) (X : Shows M t m new) (long : limits.max_states ≤ length new.targets) where
  abbrev Q : ℕ
  Q = M.states

  abbrev R : Rows
  R = rows new.ahead new.number new.member new.first new.after

  abbrev side : ℕ → Side
  side p = side_of new.member new.first p

  -- the states that a state moves alone to
  abbrev aims : ℕ → List ℕ
  aims p = part M S t m new X long p

  ascending : (p : ℕ) → p < Q → Ascends 0 Q (aims p)
  unfolding segment
  ascending p h = X.ascends p h

  -- they are as many as its openings and closings
  moves-targets : (p : ℕ) → p < Q → length (aims p) ≡ opens M p + closes M p
  moves-targets p h =
      let second : ℕ × ℕ → ℕ = λ m. m.1 in
      let a = ends (M.openings p) in
      let b = ends (M.closings p) in
      distinct_same (ascends_distinct 0 Q (aims p) (ascending p h))
      (distinct_append a b (distinct_image (M.openings p) second (S.opens_once p) one_o) (distinct_image (M.closings p) second (S.closes_once p) one_c) never)
      (λ x. (to x, from x))
      ∙ length-append a b ∙ ap₂ (λ (x y : ℕ). x + y) (length-map (M.openings p) second) (length-map (M.closings p) second)
    where
      one_o : (a b : ℕ × ℕ) → Mem a (M.openings p) → Mem b (M.openings p) → a.1 ≡ b.1 → a ≡ b
      one_o a b i j e = pair_path (S.one-opening a.0 b.0 p a.1 i (subst (λ (z : ℕ). Mem {A = ℕ × ℕ} (b.0, z) (M.openings p)) (sym e) j)) e

      one_c : (a b : ℕ × ℕ) → Mem a (M.closings p) → Mem b (M.closings p) → a.1 ≡ b.1 → a ≡ b
      one_c a b i j e = pair_path (S.one-closing a.0 b.0 p a.1 b.1 i j) e

      never : (x : ℕ) → Mem x (ends (M.openings p)) → Mem x (ends (M.closings p)) → ⊥
      never x k l =
          let u = (of_map (M.openings p) (λ (m : ℕ × ℕ). m.1)).0 k in
          let v = (of_map (M.closings p) (λ (m : ℕ × ℕ). m.1)).0 l in
          S.opens_no_close u.0.0 v.0.0 p u.0.1 v.0.1 u.1 v.1

      to : (x : ℕ) → Mem x (aims p) → Mem x (ends (M.openings p) ++ ends (M.closings p))
      to x k = elim ((part-moves M S t m new X long p x h).0 k) [
        | inl o ↦ mem_left (ends (M.closings p)) ((of_map (M.openings p) (λ (m : ℕ × ℕ). m.1)).1 ((o.0, x), o.1, refl))
        | inr o ↦ mem_right (ends (M.openings p)) ((of_map (M.closings p) (λ (m : ℕ × ℕ). m.1)).1 ((o.0, x), o.1, refl))
      ]

      from : (x : ℕ) → Mem x (ends (M.openings p) ++ ends (M.closings p)) → Mem x (aims p)
      from x k = elim (mem_either (ends (M.openings p)) (ends (M.closings p)) k) [
        | inl u ↦
            let o = (of_map (M.openings p) (λ (m : ℕ × ℕ). m.1)).0 u in
            (part-moves M S t m new X long p x h).1 (inl (o.0.0, subst (λ (z : ℕ). Mem {A = ℕ × ℕ} (o.0.0, z) (M.openings p)) (sym o.2) o.1))
        | inr u ↦
            let o = (of_map (M.closings p) (λ (m : ℕ × ℕ). m.1)).0 u in
            (part-moves M S t m new X long p x h).1 (inr (o.0.0, subst (λ (z : ℕ). Mem {A = ℕ × ℕ} (o.0.0, z) (M.closings p)) (sym o.2) o.1))
      ]

  -- so the span of a state's class
  pub span_is : (p : ℕ) → p < Q → (side p).span ≡ opens M p + closes M p
  span_is p h = sym (part_length M S t m new X long p h) ∙ moves-targets p h

  -- the moves of a state, off the rows: the span of its class, and one for a symbol ahead
  pub moves-counted : (p : ℕ) → p < Q → out M p ≡ (side p).span + one (leb 1 (get_or new.ahead p 0))
  moves-counted p h = omega (arith, moves-length M p, span_is p h, ap (λ (x : ℕ). one (leb 1 x)) (X.ahead p h))

  -- a class below m closes, another does not
  closing-kind : (p : ℕ) → p < Q → (side p).kind < m → opens M p ≡ 0
  closing-kind p h l = none_in (M.openings p) (λ k i. omega (arith, l, X.opens_class k.0 p k.1 h i))

  opening-kind : (p : ℕ) → p < Q → m ≤ (side p).kind → closes M p ≡ 0
  opening-kind p h l = none_in (M.closings p) (λ k i. omega (arith, l, X.closes_class k.0 p k.1 h i))

  -- moves alone
  alone-zero : (p q : ℕ) → p < Q → q < Q → alone_of new.ahead t m 0 (side p) q ≡ opens M p + reading M q * closes M p
  unfolding alone_of
  alone-zero p q hp hq = go (ltb (side p).kind m) (terminal_ahead M q) refl (reads_is M S t m new X long q hq)
    where
      go : (b c : Bool) → ltb (side p).kind m ≡ b → reads_at new.ahead t q ≡ c → choose (ltb (side p).kind m && not (reads_at new.ahead t q)) 0 (side p).span ≡ opens M p + one c * closes M p
      go true true e f = rw (e, f) (omega (arith, span_is p hp, closing-kind p hp (ltb-true (side p).kind m e)))
      go true false e f = rw (e, f) (omega (arith, closing-kind p hp (ltb-true (side p).kind m e)))
      go false true e f = rw e (omega (arith, span_is p hp, opening-kind p hp (ltb-false (side p).kind m e)))
      go false false e f = rw e (omega (arith, span_is p hp, opening-kind p hp (ltb-false (side p).kind m e)))

  alone-one : (p q : ℕ) → p < Q → alone_of new.ahead t m 1 (side p) q ≡ opens M p + closes M p
  unfolding alone_of
  alone-one p q hp = span_is p hp

  -- shifts
  shift_zero : (p q : ℕ) → p < Q → q < Q → shift_of new.ahead t 0 p q ≡ length (both_shift M 0 p q)
  unfolding shift_of both_shift
  shift_zero p q hp hq = rw (X.ahead p hp, X.ahead q hq) (go (leb 1 (M.ahead p)) (eqb (M.ahead p) (M.ahead q)))
    where
      go : (a b : Bool) → choose {A = ℕ} (a && (b && true)) 1 0 ≡ length (when (a && b) (step 0 (M.after p) (M.after q) (Symbol (M.ahead p)) (Symbol (M.ahead p)) ∷ []))
      go true true = refl
      go true false = refl
      go false b = refl

  shift_one : (p q : ℕ) → p < Q → q < Q → shift_of new.ahead t 1 p q ≡ reading M p * length (both_shift M 1 p q)
  unfolding shift_of both_shift
  shift_one p q hp hq = rw (reads_is M S t m new X long p hp, X.ahead p hp, X.ahead q hq) (go (leb 1 (M.ahead p)) (eqb (M.ahead p) (M.ahead q)) (terminal_ahead M p))
    where
      go : (a b c : Bool) → choose {A = ℕ} (a && (b && c)) 1 0 ≡ one c * length (when (a && b) (step 1 (M.after p) (M.after q) (Symbol (M.ahead p)) (Symbol (M.ahead p)) ∷ []))
      go true true true = refl
      go true true false = refl
      go true false true = refl
      go true false false = refl
      go false b true = refl
      go false b false = refl

  -- pairs of closings
  closed-by : (p : ℕ) → p < Q → (k : ℕ × ℕ) → Mem k (M.closings p) → k.0 ≡ get_or new.number p 0
  closed-by p h k i = sym (X.closes_number k.0 p k.1 h i)

  pairs-zero : (p q : ℕ) → p < Q → q < Q → pairs_of new.number m 0 p q (side p) (side q) ≡ length (both_close M p q)
  unfolding pairs_of both_close
  pairs-zero p q hp hq = go (ltb (side p).kind m) (ltb (side q).kind m) (eqb (get_or new.number p 0) (get_or new.number q 0)) refl refl refl
    where
      pair : ℕ × ℕ → ℕ × ℕ → List Step
      pair k l = when (not (eqb k.0 l.0)) (step 1 k.1 l.1 (Closing k.0) (Closing l.0) ∷ [])

      both : List Step
      both = each (M.closings p) (λ k. each (M.closings q) (pair k))

      test : (b : Bool) → eqb (get_or new.number p 0) (get_or new.number q 0) ≡ b → (k l : ℕ × ℕ) → Mem k (M.closings p) → Mem l (M.closings q) → eqb k.0 l.0 ≡ b
      test b e k l i j = ap₂ eqb (closed-by p hp k i) (closed-by q hq l j) ∙ e

      nothing : (closes M p ≡ 0) ⊎ (closes M q ≡ 0) → length both ≡ 0
      nothing z = pairs-none (M.closings p) (M.closings q) pair (λ k l i j. absurd (empty z i j))
        where
          empty : {k l : ℕ × ℕ} → (closes M p ≡ 0) ⊎ (closes M q ≡ 0) → Mem k (M.closings p) → Mem l (M.closings q) → ⊥
          empty (inl z) i j = omega (arith, some_in i)
          empty (inr z) i j = omega (arith, some_in j)

      go : (a b c : Bool) → ltb (side p).kind m ≡ a → ltb (side q).kind m ≡ b → eqb (get_or new.number p 0) (get_or new.number q 0) ≡ c
          → choose (a && (b && not c)) ((side p).span * (side q).span) 0 ≡ length both
      go true true false e f g =
          ap₂ (λ (x y : ℕ). x * y) (let z : (side p).span ≡ closes M p = omega (arith, span_is p hp, closing-kind p hp (ltb-true (side p).kind m e)) in z)
          (let z : (side q).span ≡ closes M q = omega (arith, span_is q hq, closing-kind q hq (ltb-true (side q).kind m f)) in z)
          ∙ sym (pairs-one (M.closings p) (M.closings q) pair (λ k l i j. ap (λ (b : Bool). length (when (not b) (step 1 k.1 l.1 (Closing k.0) (Closing l.0) ∷ []))) (test false g k l i j)))
      go true true true e f g =
          sym (pairs-none (M.closings p) (M.closings q) pair (λ k l i j. ap (λ (b : Bool). length (when (not b) (step 1 k.1 l.1 (Closing k.0) (Closing l.0) ∷ []))) (test true g k l i j)))
      go true false c e f g = sym (nothing (inr (opening-kind q hq (ltb-false (side q).kind m f))))
      go false b c e f g = sym (nothing (inl (opening-kind p hp (ltb-false (side p).kind m e))))

  -- the plan of a triple has as many successors as the triple has choices
  plan-total : (i f p q : ℕ) → f < 2 → p < Q → q < Q → (plan_for R t m Q f p q (side p) (side q)).total ≡ length (choices M f p q)
  plan-total i zero p q hf hp hq =
      omega (arith, alone-zero p q hp hq, alone-zero q p hq hp, shift_zero p q hp hq, pairs-zero p q hp hq, zero_count M p q)
  plan-total i (suc zero) p q hf hp hq =
      omega (arith, alone-one p q hp, alone-one q p hq, shift_one p q hp hq, pairs-later new.number m p q (side p) (side q), one_count M p q)
  plan-total i (suc (suc f)) p q hf hp hq = absurd (omega arith)

  -- and of an index as many as it has successors
  pub total_is : (i : ℕ) → i < triple_count Q → (plan_of R t m Q i).total ≡ length (successors M i)
  unfolding plan_of
  total_is i h =
      let d = digits Q i (omega (arith, S.four)) h in
      plan-total i (layer_of Q i) (left_of Q i) (right_of Q i) d.layer d.left d.right
      ∙ sym (successors-length M (layer_of Q i) (left_of Q i) (right_of Q i) d.left d.right)
      ∙ ap (λ (j : ℕ). length (successors M j)) d.whole
