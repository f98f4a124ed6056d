-- What rows that show an automaton say of the moves. Assumes nothing.
use Prim.Native.Nat.{ℕ, zero, suc, ◌≤◌, ◌<◌}
use mathlib.Core.Path.{◌≡◌, refl, sym, ap, subst, ◌∙◌}
use mathlib.Core.Bool.{Bool, true, false}
use mathlib.Core.Logic.{inl, inr, ◌↔◌}
use native.Mathlib.Omega.{arith}
use lib.Dec.{eqb, ltb}
use lib.ListN.{get_or}
use borrow.Author.Tests.{eq-eqb, ltb-true, lt-ltb}
use Rattle.grammar.specs.Basics.{Mem}
use Rattle.grammar.specs.Limits.{limits}
use Rattle.grammar.specs.Grammar.{Terminal}
use Rattle.grammar.proofs.Answers.{no_bool, and_both, both_and}
use Rattle.automaton.specs.Moves.{Moves, terminal_ahead, listed, Regular}
use Rattle.triples.specs.Successor.{BeforeTerminal}
use Rattle.triple_laws.proofs.Choices.{terminal-ahead}
use Rattle.moves.specs.Tables.{Ascends, Tables}
use Rattle.moves.specs.Shows.{Opened, Closed, Shows}
use Rattle.steps.specs.Plan.{Rows, rows_of, ahead_of, ends, targets_of, is_read}

-- what the rows say of an automaton
pub record Say (M : Moves) (R : Rows) : Type 0 where
  pub regular : Regular M
  pub few : M.states ≤ limits.max_states
  pub opens_in : (i p u : ℕ) → p < M.states → Opened M i p u → (ends R p ≡ false) × Mem u (targets_of R p) × (get_or R.number u 0 ≡ i)
  pub opens-out : (p u : ℕ) → p < M.states → ends R p ≡ false → Mem u (targets_of R p) → Opened M (get_or R.number u 0) p u
  pub closes_in : (i p u : ℕ) → p < M.states → Closed M i p u → (ends R p ≡ true) × Mem u (targets_of R p) × (get_or R.number p 0 ≡ i)
  pub closes-out : (p u : ℕ) → p < M.states → ends R p ≡ true → Mem u (targets_of R p) → Closed M (get_or R.number p 0) p u
  pub shifts : (x p u : ℕ) → p < M.states → ((M.ahead p ≡ x) × (1 ≤ x) × (u ≡ M.after p)) ↔ ((ahead_of R p ≡ x) × (1 ≤ x) × (u ≡ get_or R.after p 0))
  pub terminal : (p : ℕ) → p < M.states → (is_read R.terminals (ahead_of R p) ≡ true) ↔ BeforeTerminal (listed M) p
  pub same-terminals : R.terminals ≡ M.terminals
  pub ascends : (p : ℕ) → p < M.states → Ascends 0 M.states (targets_of R p)
  pub no_open : (i p u : ℕ) → BeforeTerminal (listed M) p → Opened M i p u → ⊥

false_unless : (b : Bool) → (b ≡ true → ⊥) → b ≡ false
false_unless true n = absurd (n refl)
false_unless false n = refl

module _ (M : Moves) (S : Regular M) (t m : ℕ) (new : Tables) (X : Shows M t m new) where
  abbrev pub rows_in : Rows
  rows_in = rows_of new.ahead new.number new.member new.first new.after new.targets t m

  -- nothing is ahead of a state that closes
  nothing-ahead : (i p u : ℕ) → Closed M i p u → M.ahead p ≡ 0
  nothing-ahead i p u c = go (M.ahead p) refl
    where
      go : (x : ℕ) → M.ahead p ≡ x → M.ahead p ≡ 0
      go zero e = e
      go (suc x) e = absurd (S.ahead_no_close i p u (omega (arith, e)) c)

  opens_say : (i p u : ℕ) → p < M.states → Opened M i p u → (ends rows_in p ≡ false) × Mem u (targets_of rows_in p) × (get_or new.number u 0 ≡ i)
  opens_say i p u h o = (
    false_unless (ends rows_in p) (λ e.
        let a = and_both (eqb (ahead_of rows_in p) 0) (ltb (get_or new.member p 0) m) e in
        let z = ltb-true (get_or new.member p 0) m a.1 in
        omega (arith, X.opens_class i p u h o)),
    (X.targets p u h).1 (inl (i, o)),
    X.opens_number i p u (S.opens-below i p u o) o,
  )

  closes_say : (i p u : ℕ) → p < M.states → Closed M i p u → (ends rows_in p ≡ true) × Mem u (targets_of rows_in p) × (get_or new.number p 0 ≡ i)
  closes_say i p u h c = (
    both_and (eqb (ahead_of rows_in p) 0) (ltb (get_or new.member p 0) m)
        (eq-eqb (ahead_of rows_in p) 0 (X.ahead p h ∙ nothing-ahead i p u c))
        (lt-ltb (get_or new.member p 0) m (X.closes_class i p u h c)),
    (X.targets p u h).1 (inr (i, c)),
    X.closes_number i p u h c,
  )

  reads_is : (p : ℕ) → p < M.states → is_read t (ahead_of rows_in p) ≡ terminal_ahead M p
  reads_is p h = ap (is_read t) (X.ahead p h) ∙ ap (λ t. is_read t (M.ahead p)) X.terminals

  -- rows that show the automaton say so
  pub shown-says : Say M rows_in
  shown-says = record {
    regular = S;
    few = X.few;
    opens_in = opens_say;
    opens-out = λ p u h e k. elim ((X.targets p u h).0 k) [
      | inl o ↦ subst (λ i. Opened M i p u) (sym (opens_say o.0 p u h o.1).2) o.1
      | inr o ↦ no_bool (sym (closes_say o.0 p u h o.1).0 ∙ e)
    ];
    closes_in = closes_say;
    closes-out = λ p u h e k. elim ((X.targets p u h).0 k) [
      | inl o ↦ no_bool (sym e ∙ (opens_say o.0 p u h o.1).0)
      | inr o ↦ subst (λ i. Closed M i p u) (sym (closes_say o.0 p u h o.1).2) o.1
    ];
    shifts = λ x p u hp. let e = X.ahead p hp in (
      λ r. (e ∙ r.0, r.1, r.2 ∙ sym (X.after p hp (omega (arith, r.0, r.1)))),
      λ r. let a : M.ahead p ≡ x = sym e ∙ r.0 in (a, r.1, r.2 ∙ X.after p hp (omega (arith, a, r.1))),
    );
    terminal = λ p hp. let s = terminal-ahead M p in (λ h. s.0 (sym (reads_is p hp) ∙ h), λ b. reads_is p hp ∙ s.1 b);
    same-terminals = X.terminals;
    ascends = X.ascends;
    no_open = λ i p u b. S.terminal_no_open i p u (subst (Terminal M.terminals) (sym b.2.1.0) b.1);
  }
