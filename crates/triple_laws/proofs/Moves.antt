-- The moves as lists are exactly the moves of the position automaton: codes ahead, openings, closings and shifts of each state.
-- A law in `↔` is a pair, `.0` from the list to the automaton and `.1` back.
-- Assumes nothing.
use Prim.Native.Nat.{ℕ, zero, suc, ◌+◌, ◌≤◌, ◌<◌}
use mathlib.Core.Path.{◌≡◌, refl, sym, ap, subst, ◌∙◌}
use mathlib.Core.Bool.{Bool, true, ◌&&◌}
use mathlib.Core.List.{[], ◌∷◌}
use mathlib.Core.Logic.{inl, inr, ◌↔◌}
use native.Mathlib.Omega.{arith}
use lib.Dec.{eqb}
use lib.ListN.{length, get_or}
use borrow.Author.Tests.{eqb-true, eq-eqb}
use Rattle.grammar.specs.Basics.{Mem, when, each}
use Rattle.grammar.specs.Limits.{Limits}
use Rattle.grammar.specs.Grammar.{Grammar, IsRule, rule, WellFormed}
use Rattle.grammar.proofs.Derives.{rule-listed}
use Rattle.grammar.proofs.Answers.{and_both, both_and}
use Rattle.automaton.specs.Items.{length_of, base, Before}
use Rattle.automaton.specs.Position.{Opens, opens-start, opens-rule, Closes, closes-start, closes-rule, Shifts, shifts}
use Rattle.automaton.proofs.Items.{base-low}
use Rattle.automaton.specs.PositionMoves.{aheads, rules_of, completed, past, ahead_row, ahead, openings, closings}
use Rattle.triple_laws.proofs.Members.{only_one, one_only, place_mem, mem_left, mem_right, mem_either, under-test, of-each}
use Rattle.triple_laws.proofs.Members.{of_map}
use Rattle.triple_laws.proofs.Rows.{run-rules, run-zero, item_ahead, ahead_item, rules-out, rules_in_lem, ends-out, ends_in}
use Rattle.triple_laws.proofs.Rows.{past-out, past_in, pasts}

module _ (L : Limits) (G : Grammar) (T : ℕ → Type 0) (taken : ℕ → Bool) (says : (i : ℕ) → i ≤ length G.rules → (taken i ≡ true) ↔ T i) where
  ahead-to : (x p : ℕ) → 1 ≤ x → ahead L G taken p ≡ x → Before L G T x p
  unfolding ahead_row aheads rule base
  ahead-to x zero h e = absurd (omega arith)
  ahead-to x (suc zero) h e = absurd (omega arith)
  ahead-to x (suc (suc k)) h e =
      let a = ahead_item L G taken 0 (rule L G 0 ∷ G.rules) (run-zero L G taken) k x h e in
      record {
        number = a.number;
        place = a.place;
        item = record { rule = omega (arith, a.most); dot = omega (arith, a.inside); state = omega (arith, a.state) };
        inside = a.inside;
        symbol = a.symbol;
        taken = (says a.number (omega (arith, a.most))).0 a.shows;
      }

  before-to : (x p : ℕ) → Before L G T x p → ahead L G taken p ≡ x
  unfolding ahead_row aheads rule base
  before-to x zero b = absurd (omega (arith, b.item.state, base-low L G b.number))
  before-to x (suc zero) b = absurd (omega (arith, b.item.state, base-low L G b.number))
  before-to x (suc (suc k)) b =
      item_ahead L G taken 0 (rule L G 0 ∷ G.rules) (run-zero L G taken) b.number b.place k (omega arith) (omega (arith, b.item.rule))
      b.inside (omega (arith, b.item.state)) ((says b.number b.item.rule).1 b.taken) ∙ b.symbol

  -- the code ahead of a state is x exactly where the state stands before x
  pub ahead_before : (x p : ℕ) → 1 ≤ x → (ahead L G taken p ≡ x) ↔ Before L G T x p
  ahead_before x p h = (ahead-to x p h, before-to x p)

module _ (L : Limits) (G : Grammar) (T : ℕ → Type 0) (taken : ℕ → Bool) (says : (i : ℕ) → i ≤ length G.rules → (taken i ≡ true) ↔ T i)
    (W : WellFormed L G) (apart : L.max_terminals < L.nonterminal_base) where
  -- a rule's left code is not 0
  pub left-code : (i : ℕ) → IsRule G i → 1 ≤ (rule L G i).left
  left-code i r = omega (arith, (W.lefts (rule L G i) (rule-listed L G i r)).0)

  opening-out : (i p q : ℕ) → Mem {A = ℕ × ℕ} (i, q) (openings L G taken p) → Opens L G T i p q
  unfolding openings base rule
  opening-out i p q m = elim (mem_either (when (taken 0 && eqb p 0) ((0, 2) ∷ [])) (rules_of taken (ahead L G taken p) 1 4 G.rules) m) [
    | inl k ↦
        let u = (under-test {A = ℕ × ℕ} (taken 0 && eqb p 0) ((0, 2) ∷ [])).0 k in
        let v = only_one u.1 in
        let a = and_both (taken 0) (eqb p 0) u.0 in
        opens-start ((says 0 (omega arith)).0 a.0) (ap (λ (c : ℕ × ℕ). c.0) v) (eqb-true p 0 a.1) (ap (λ (c : ℕ × ℕ). c.1) v)
    | inr k ↦
        let o = rules-out L G taken (ahead L G taken p) 1 4 G.rules (run-rules L G taken) refl i q k in
        let r : IsRule G i = (o.0, omega arith) in
        opens-rule r ((says i r.1).0 o.4) ((ahead_before L G T taken says (rule L G i).left p (left-code i r)).0 (sym o.2)) o.3
  ]

  opening_in : (i p q : ℕ) → Opens L G T i p q → Mem {A = ℕ × ℕ} (i, q) (openings L G taken p)
  unfolding openings base rule
  opening_in i p q (opens-start l e f g) =
      let v : ◌≡◌ {A = ℕ × ℕ} (i, q) (0, 2) = cc in
      mem_left (rules_of taken (ahead L G taken p) 1 4 G.rules) ((under-test (taken 0 && eqb p 0) ((0, 2) ∷ [])).1 (both_and (taken 0) (eqb p 0) ((says 0 (omega arith)).1 l) (eq-eqb p 0 f), one_only v))
  opening_in i p q (opens-rule r l b e) =
      mem_right (when (taken 0 && eqb p 0) ((0, 2) ∷ []))
      (rules_in_lem L G taken (ahead L G taken p) 1 4 G.rules (run-rules L G taken) refl i q r.0 (omega arith)
      (sym (before-to L G T taken says (rule L G i).left p b)) e ((says i r.1).1 l))

  -- the openings of a state are listed with rule and next state
  pub opening-listed : (i p q : ℕ) → Mem {A = ℕ × ℕ} (i, q) (openings L G taken p) ↔ Opens L G T i p q
  opening-listed i p q = (opening-out i p q, opening_in i p q)

  closing-out : (i p q : ℕ) → Mem {A = ℕ × ℕ} (i, q) (closings L G taken p) → Closes L G T i p q
  unfolding closings base rule
  closing-out i p q m =
      elim (mem_either (when (taken 0 && eqb p 3) ((0, 1) ∷ [])) (each (completed taken p 1 4 G.rules) (pasts (ahead_row L G taken))) m) [
        | inl k ↦
            let u = (under-test {A = ℕ × ℕ} (taken 0 && eqb p 3) ((0, 1) ∷ [])).0 k in
            let v = only_one u.1 in
            let a = and_both (taken 0) (eqb p 3) u.0 in
            closes-start ((says 0 (omega arith)).0 a.0) (ap (λ (c : ℕ × ℕ). c.0) v) (eqb-true p 3 a.1) (ap (λ (c : ℕ × ℕ). c.1) v)
        | inr k ↦
            let o = (of-each (completed taken p 1 4 G.rules) (pasts (ahead_row L G taken))).0 k in
            let c = o.0 in
            let s = (of_map {B = ℕ × ℕ} (past c.1 0 (ahead_row L G taken)) (λ q. (c.0, q))).0 o.2 in
            let d = ends-out L G taken p 1 4 G.rules (run-rules L G taken) refl c.0 c.1 o.1 in
            let f = past-out c.1 0 (ahead_row L G taken) s.0 s.1 in
            let r : IsRule G c.0 = (d.0, omega arith) in
            let y : i ≡ c.0 = ap (λ (c : ℕ × ℕ). c.0) s.2 in
            let z : q ≡ s.0 = ap (λ (c : ℕ × ℕ). c.1) s.2 in
            let b = (ahead_before L G T taken says (rule L G c.0).left f.0 (left-code c.0 r)).0 (f.1 ∙ d.3) in
            subst (λ i. Closes L G T i p q) (sym y) (closes-rule r ((says c.0 r.1).0 d.4) d.2 b (omega arith))
      ]

  closing_in : (i p q : ℕ) → Closes L G T i p q → Mem {A = ℕ × ℕ} (i, q) (closings L G taken p)
  unfolding closings base rule
  closing_in i p q (closes-start l e f g) =
      let v : ◌≡◌ {A = ℕ × ℕ} (i, q) (0, 1) = cc in
      mem_left (each (completed taken p 1 4 G.rules) (pasts (ahead_row L G taken)))
      ((under-test (taken 0 && eqb p 3) ((0, 1) ∷ [])).1 (both_and (taken 0) (eqb p 3) ((says 0 (omega arith)).1 l) (eq-eqb p 3 f), one_only v))
  closing_in i p q (closes-rule {r = k} r l e b f) =
      let x = (rule L G i).left in
      let h : suc (0 + k) ≡ q = omega arith in
      let s = past_in x 0 (ahead_row L G taken) k (left-code i r) (before-to L G T taken says x k b) in
      mem_right (when (taken 0 && eqb p 3) ((0, 1) ∷ []))
      ((of-each (completed taken p 1 4 G.rules) (pasts (ahead_row L G taken))).1 (
        (i, x),
        ends_in L G taken p 1 4 G.rules (run-rules L G taken) refl i r.0 (omega arith) e ((says i r.1).1 l),
        (of_map (past x 0 (ahead_row L G taken)) (λ q. (i, q))).1 (q, subst (λ q. Mem q (past x 0 (ahead_row L G taken))) h s, refl),
      ))

  -- the closings of a state are listed with rule and next state
  pub closing-listed : (i p q : ℕ) → Mem {A = ℕ × ℕ} (i, q) (closings L G taken p) ↔ Closes L G T i p q
  closing-listed i p q = (closing-out i p q, closing_in i p q)

  -- what stands ahead of an item is not 0
  pub before-code : {x p : ℕ} → Before L G T x p → 1 ≤ x
  unfolding rule
  before-code {x} {p} b = go b.number b.place b.item.rule b.inside b.symbol
    where
      go : (i d : ℕ) → i ≤ length G.rules → d < length_of L G i → get_or (rule L G i).right d 0 ≡ x → 1 ≤ x
      go zero zero h u e = omega arith
      go zero (suc d) h u e = absurd (omega arith)
      go (suc i) d h u e =
          let r = rule L G (suc i) in
          let m = subst (λ x. Mem x r.right) e (place_mem r.right d 0 u) in
          elim (W.codes r (rule-listed L G (suc i) (omega arith, h)) x m) [ inl t ↦ t.0 | inr n ↦ omega (arith, n.0) ]

  -- a state shifts the code ahead of it, to the state after it
  pub shift_ahead : (x p q : ℕ) → Shifts L G T x p q ↔ ((ahead L G taken p ≡ x) × (1 ≤ x) × (q ≡ suc p))
  shift_ahead x p q = (to, from)
    where
      to : Shifts L G T x p q → (ahead L G taken p ≡ x) × (1 ≤ x) × (q ≡ suc p)
      to (shifts b e) = (before-to L G T taken says x p b, before-code b, e)

      from : (ahead L G taken p ≡ x) × (1 ≤ x) × (q ≡ suc p) → Shifts L G T x p q
      from h = shifts ((ahead_before L G T taken says x p h.1).0 h.0) h.2
