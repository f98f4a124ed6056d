-- The listed records of a triple are its records, in their order. Assumes nothing.
use Prim.Native.Nat.{ℕ, zero, suc, ◌≤◌, ◌<◌}
use mathlib.Core.Path.{◌≡◌, refl, sym, ap, subst, ◌∙◌}
use mathlib.Core.Bool.{Bool, true, false, ◌&&◌}
use mathlib.Core.List.{List, []}
use native.Mathlib.Omega.{arith}
use lib.Dec.{eqb, leb, ltb}
use lib.ListN.{get_or}
use borrow.Author.Tests.{eqb-true, leb-true, le-ltb}
use Rattle.grammar.specs.Basics.{Mem, when}
use Rattle.grammar.specs.Limits.{limits}
use Rattle.grammar.proofs.Answers.{and_both}
use Rattle.automaton.specs.Moves.{Moves, listed}
use Rattle.triples.specs.Index.{index}
use Rattle.triples.specs.Successor.{StepTo, open_left, open_right, shift_both, part-both, part_left, part_right}
use Rattle.triples.specs.Successor.{close-left, close-right, read-both}
use Rattle.triples.specs.Records.{step, choices, ordered, records}
use Rattle.triples.specs.declared.Move.{Move}
use Rattle.triples.specs.declared.Move.TheVariants.{Opening, Closing, Still}
use Rattle.triples.specs.declared.Step.{Step}
use Rattle.triple_laws.proofs.Placed.{records-only}
use Rattle.moves.proofs.Places.{ascends_mem}
use Rattle.steps.specs.Plan.{Rows, ahead_of, ends, targets_of, is_read, left_to, right_to, sides, plan_zero, plan_one, plan_at, planned}
use Rattle.steps.proofs.Ways.{Zero, open_l, open_r, shift_z, part-b, part_l, part-r, One, alone_l, alone-r, shift_o, Fits, plan-zero, plan-one}
use Rattle.steps.proofs.Ranks.{zero_rises, one_rises}
use Rattle.steps.proofs.Alone.{LeadsOn}
use Rattle.steps.proofs.Says.{Say}

module _ (M : Moves) (R : Rows) (S : Say M R) (p q : ℕ) (hp : p < M.states) (hq : q < M.states) where
  abbrev N : List ℕ
  N = R.number

  abbrev E : List ℕ
  E = R.after

  abbrev x : ℕ
  x = ahead_of R p

  abbrev y : ℕ
  y = ahead_of R q

  abbrev ls : List ℕ
  ls = targets_of R p

  abbrev rs : List ℕ
  rs = targets_of R q

  -- a step record as a step
  abbrev Goes : ℕ → Step → Type 0
  Goes f s = StepTo (listed M) f p q s.layer s.left s.right s.on_left s.on_right

  end_none : (r : ℕ) → ends R r ≡ true → ahead_of R r ≡ 0
  end_none r e = eqb-true (ahead_of R r) 0 (and_both (eqb (ahead_of R r) 0) (ltb (get_or R.member r 0) R.kinds) e).0

  stays : (r : ℕ) → r < M.states → is_read R.terminals (ahead_of R r) ≡ true → (u : ℕ) → Mem u (targets_of R r) → ⊥
  stays r h e u m = go (ends R r) refl
    where
      go : (b : Bool) → ends R r ≡ b → ⊥
      go true z =
          let k = leb-true 1 (ahead_of R r) (and_both (leb 1 (ahead_of R r)) (leb (ahead_of R r) R.terminals) e).0 in
          omega (arith, end_none r z)
      go false z = S.no_open _ r u ((S.terminal r h).0 e) (S.opens-out r u h z m)

  low : (r : ℕ) → r < M.states → (u : ℕ) → Mem u (targets_of R r) → u < limits.max_states
  low r h u m = omega (arith, (ascends_mem 0 M.states (targets_of R r) u (S.ascends r h) m).1, S.few)

  fits : Fits N E R.terminals x y p q ls rs (ends R p) (ends R q)
  fits = record {
    end_l = end_none p;
    end-r = end_none q;
    stay_l = stays p hp;
    stay-r = stays q hq;
    low_l = low p hp;
    low-r = low q hq;
  }

  abbrev Z : Step → Type 0
  Z s = Zero N E R.terminals x y p q ls rs (ends R p) (ends R q) s

  abbrev O : Step → Type 0
  O s = One N E R.terminals x y p q ls rs (ends R p) (ends R q) s

  shift_of : (r : ℕ) → r < M.states → (a : ℕ) → ahead_of R r ≡ a → 1 ≤ a → (M.ahead r ≡ a) × (1 ≤ a) × (get_or E r 0 ≡ M.after r)
  shift_of r h a e k = (S.shifts a r (get_or E r 0) h).1 (e, k, refl)

  -- where a symbol is ahead, a shift leads on
  leads_on : x ≡ y → 1 ≤ x → LeadsOn E p q M.states
  leads_on e h =
      let a = shift_of p hp x refl h in
      let b = shift_of q hq x (sym e) h in
      record {
        left-on = omega (arith, a.2, S.regular.later p (omega (arith, a.0)));
        left_in = omega (arith, a.2, S.regular.shifts-below p (omega (arith, a.0)));
        right-on = omega (arith, b.2, S.regular.later q (omega (arith, b.0, h)));
        right_in = omega (arith, b.2, S.regular.shifts-below q (omega (arith, b.0, h)));
      }

  -- the ways on from layer 0 are steps
  zero-goes : (s : Step) → Z s → Goes 0 s
  zero-goes s (open_l u e m z) = subst (Goes 0) (sym z) (open_left (S.opens-out p u hp e m))
  zero-goes s (open_r v e m z) = subst (Goes 0) (sym z) (open_right (S.opens-out q v hq e m))
  zero-goes s (shift_z e h z) = subst (Goes 0) (sym z) (shift_both (shift_of p hp x refl h) (shift_of q hq x (sym e) h))
  zero-goes s (part-b u v e f n m k z) = subst (Goes 0) (sym z) (part-both n (S.closes-out p u hp e m) (S.closes-out q v hq f k))
  zero-goes s (part_l u e r m z) = subst (Goes 0) (sym z) (part_left (S.closes-out p u hp e m) ((S.terminal q hq).0 r))
  zero-goes s (part-r v e r m z) = subst (Goes 0) (sym z) (part_right (S.closes-out q v hq e m) ((S.terminal p hp).0 r))

  goes-zero : {g p' q' : ℕ} {l r : Move} → StepTo (listed M) 0 p q g p' q' l r → Z (step g p' q' l r)
  goes-zero (open_left {i = i} {p' = u} o) =
      let a = S.opens_in i p u hp o in open_l u a.0 a.1 (ap (λ i. step 0 u q (Opening i) Still) (sym a.2))
  goes-zero (open_right {i = i} {q' = v} o) =
      let a = S.opens_in i q v hq o in open_r v a.0 a.1 (ap (λ i. step 0 p v Still (Opening i)) (sym a.2))
  goes-zero (shift_both {x = a} {p' = u} {q' = v} s t) =
      let c = (S.shifts a p u hp).0 s in
      let d = (S.shifts a q v hq).0 t in
      shift_z (c.0 ∙ sym d.0) (omega (arith, c.0, c.1)) (cc (c.0, c.2, d.2))
  goes-zero (part-both {i = i} {j = j} {p' = u} {q' = v} n c d) =
      let a = S.closes_in i p u hp c in
      let b = S.closes_in j q v hq d in
      part-b u v a.0 b.0 (λ e. n (sym a.2 ∙ e ∙ b.2)) a.1 b.1 (cc (a.2, b.2))
  goes-zero (part_left {i = i} {p' = u} c b) =
      let a = S.closes_in i p u hp c in part_l u a.0 ((S.terminal q hq).1 b) a.1 (ap (λ i. step 1 u q (Closing i) Still) (sym a.2))
  goes-zero (part_right {i = i} {q' = v} c b) =
      let a = S.closes_in i q v hq c in part-r v a.0 ((S.terminal p hp).1 b) a.1 (ap (λ i. step 1 p v Still (Closing i)) (sym a.2))

  -- the ways on from layer 1 are steps
  left-goes : (lc : Bool) → ends R p ≡ lc → (u : ℕ) → Mem u ls → Goes 1 (left_to N (sides 1 p q lc lc) u)
  left-goes true e u m = close-left (S.closes-out p u hp e m)
  left-goes false e u m = open_left (S.opens-out p u hp e m)

  right-goes : (rc : Bool) → ends R q ≡ rc → (v : ℕ) → Mem v rs → Goes 1 (right_to N (sides 1 p q rc rc) v)
  right-goes true e v m = close-right (S.closes-out q v hq e m)
  right-goes false e v m = open_right (S.opens-out q v hq e m)

  one-goes : (s : Step) → O s → Goes 1 s
  one-goes s (alone_l u m z) = subst (Goes 1) (sym z) (left-goes (ends R p) refl u m)
  one-goes s (alone-r v m z) = subst (Goes 1) (sym z) (right-goes (ends R q) refl v m)
  one-goes s (shift_o e h k z) =
      subst (Goes 1) (sym z) (read-both (h, subst (λ t. x ≤ t) S.same-terminals k) (shift_of p hp x refl h) (shift_of q hq x (sym e) h))

  goes_one : {g p' q' : ℕ} {l r : Move} → StepTo (listed M) 1 p q g p' q' l r → O (step g p' q' l r)
  goes_one (open_left {i = i} {p' = u} o) =
      let a = S.opens_in i p u hp o in
      alone_l u a.1 (ap (λ i. step 1 u q (Opening i) Still) (sym a.2) ∙ ap (λ b. left_to N (sides 1 p q b (ends R q)) u) (sym a.0))
  goes_one (open_right {i = i} {q' = v} o) =
      let a = S.opens_in i q v hq o in
      alone-r v a.1 (ap (λ i. step 1 p v Still (Opening i)) (sym a.2) ∙ ap (λ b. right_to N (sides 1 p q (ends R p) b) v) (sym a.0))
  goes_one (close-left {i = i} {p' = u} c) =
      let a = S.closes_in i p u hp c in
      alone_l u a.1 (ap (λ i. step 1 u q (Closing i) Still) (sym a.2) ∙ ap (λ b. left_to N (sides 1 p q b (ends R q)) u) (sym a.0))
  goes_one (close-right {i = i} {q' = v} c) =
      let a = S.closes_in i q v hq c in
      alone-r v a.1 (ap (λ i. step 1 p v Still (Closing i)) (sym a.2) ∙ ap (λ b. right_to N (sides 1 p q (ends R p) b) v) (sym a.0))
  goes_one (read-both {a = a} {p' = u} {q' = v} t s r) =
      let c = (S.shifts a p u hp).0 s in
      let d = (S.shifts a q v hq).0 r in
      shift_o (c.0 ∙ sym d.0) (omega (arith, c.0, c.1)) (omega (arith, c.0, t.1, S.same-terminals)) (cc (c.0, c.2, d.2))

  plan-zero_is : plan_zero N E R.terminals x y (ends R p) (ends R q) p q ls rs ≡ records M 0 p q
  plan-zero_is = records-only M S.regular 0 p q (omega arith) hp hq (plan_zero N E R.terminals x y (ends R p) (ends R q) p q ls rs)
      (λ s. let w = plan-zero N E R.terminals x y p q ls rs (ends R p) (ends R q) fits s in (λ m. zero-goes s (w.0 m), λ g. w.1 (goes-zero g)))
      (zero_rises M N E p q hp hq R.terminals x y (ends R p) (ends R q) ls rs (S.ascends p hp) (S.ascends q hq) leads_on)

  plan-one_is : plan_one N E R.terminals x y (ends R p) (ends R q) p q ls rs ≡ records M 1 p q
  plan-one_is = records-only M S.regular 1 p q (omega arith) hp hq (plan_one N E R.terminals x y (ends R p) (ends R q) p q ls rs)
      (λ s. let w = plan-one N E R.terminals x y p q ls rs (ends R p) (ends R q) fits s in (λ m. one-goes s (w.0 m), λ g. w.1 (goes_one g)))
      (one_rises M N E p q hp hq R.terminals x y (ends R p) (ends R q) ls rs (S.ascends p hp) (S.ascends q hq) leads_on)

  -- the list is that of the records
  pub planned_is : (f : ℕ) → planned R f p q ≡ records M f p q
  unfolding plan_at records choices ordered
  planned_is zero = plan-zero_is
  planned_is (suc zero) = plan-one_is
  planned_is (suc (suc f)) = go (ltb p M.states && ltb q M.states)
    where
      go : (b : Bool) → ◌≡◌ {A = List Step} [] (when b [])
      go true = refl
      go false = refl

-- a triple with a state out of range has no records
pub none_left : (M : Moves) (f p q : ℕ) → M.states ≤ p → records M f p q ≡ []
unfolding records
none_left M f p q h = rw (le-ltb p M.states h) refl

pub none_right : (M : Moves) (f p q : ℕ) → M.states ≤ q → records M f p q ≡ []
unfolding records
none_right M f p q h = rw (le-ltb q M.states h) (go (ltb p M.states))
  where
    go : (b : Bool) → when (b && false) (ordered M (index M.states f p q) (choices M f p q)) ≡ []
    go true = refl
    go false = refl
