-- Rows that show an automaton say what the step test reads off them. Assumes nothing.
use Prim.Native.Nat.{ℕ, ◌<◌}
use mathlib.Core.Path.{◌≡◌, ap, sym, ◌∙◌}
use mathlib.Core.Logic.{◌↔◌, ◌⊎◌, inl, inr}
use mathlib.Core.Bool.{true, ◌&&◌}
use native.Mathlib.Omega.{arith}
use lib.Dec.{leb, ltb}
use lib.ListN.{get_or}
use borrow.Author.Tests.{eqb-true, eq-eqb, leb-true, le-leb, ltb-true, lt-ltb}
use Rattle.grammar.proofs.Answers.{and_both, both_and}
use Rattle.automaton.specs.Moves.{Moves, terminal_ahead, Regular}
use Rattle.triple_laws.proofs.Choices.{terminal-ahead}
use Rattle.moves.specs.Tables.{Tables, reads_at}
use Rattle.moves.specs.Shows.{Opened, Closed, Shows}
use Rattle.witness_check.specs.StepTest.{leads_to, opens_to, closes_to}
use Rattle.witness_check.specs.Clauses.{RowsSay, Ready}

module _ (M : Moves) (t m : ℕ) (new : Tables) (X : Shows M t m new) where
  leads : (p u : ℕ) → p < M.states → u < M.states
      → (leads_to new.member new.target p u ≡ true) ↔ (((i : ℕ) × Opened M i p u) ⊎ ((i : ℕ) × Closed M i p u))
  leads p u hp hu =
      let m = X.leads p u hp hu in (
        λ e. m.0 (eqb-true (get_or new.member p 0) (get_or new.target u 0) e),
        λ x. eq-eqb (get_or new.member p 0) (get_or new.target u 0) (m.1 x),
      )

  opening : (p u : ℕ) → p < M.states → u < M.states
      → (opens_to new.member new.target m p u ≡ true) ↔ ((i : ℕ) × Opened M i p u)
  opening p u hp hu = (to, from)
    where
      to : opens_to new.member new.target m p u ≡ true → (i : ℕ) × Opened M i p u
      to e =
          let a = and_both (leb m (get_or new.member p 0)) (leads_to new.member new.target p u) e in
          elim ((leads p u hp hu).0 a.1) [
            | inl o ↦ o
            | inr o ↦ absurd (let z : ⊥ = omega (arith, X.closes_class o.0 p u hp o.1, leb-true m (get_or new.member p 0) a.0) in z)
          ]

      from : ((i : ℕ) × Opened M i p u) → opens_to new.member new.target m p u ≡ true
      from o = both_and (leb m (get_or new.member p 0)) (leads_to new.member new.target p u)
          (le-leb m (get_or new.member p 0) (omega (arith, X.opens_class o.0 p u hp o.1)))
          ((leads p u hp hu).1 (inl o))

  closing : (p u : ℕ) → p < M.states → u < M.states
      → (closes_to new.member new.target m p u ≡ true) ↔ ((i : ℕ) × Closed M i p u)
  closing p u hp hu = (to, from)
    where
      to : closes_to new.member new.target m p u ≡ true → (i : ℕ) × Closed M i p u
      to e =
          let a = and_both (ltb (get_or new.member p 0) m) (leads_to new.member new.target p u) e in
          elim ((leads p u hp hu).0 a.1) [
            | inl o ↦ absurd (let z : ⊥ = omega (arith, X.opens_class o.0 p u hp o.1, ltb-true (get_or new.member p 0) m a.0) in z)
            | inr o ↦ o
          ]

      from : ((i : ℕ) × Closed M i p u) → closes_to new.member new.target m p u ≡ true
      from o = both_and (ltb (get_or new.member p 0) m) (leads_to new.member new.target p u)
          (lt-ltb (get_or new.member p 0) m (omega (arith, X.closes_class o.0 p u hp o.1)))
          ((leads p u hp hu).1 (inr o))

  reads_is : (p : ℕ) → p < M.states → reads_at new.ahead t p ≡ terminal_ahead M p
  reads_is p h = ap (λ (x : ℕ). leb 1 x && leb x t) (X.ahead p h) ∙ ap (λ (t : ℕ). leb 1 (M.ahead p) && leb (M.ahead p) t) X.terminals

  -- rows that show an automaton say what the step test reads off them
  pub rows_say : RowsSay M new.ahead new.after new.number new.member new.target t m
  rows_say = record {
    opens = opening;
    closes = closing;
    moves = leads;
    closing = X.closes_number;
    shifts = λ x p u hp. let e = X.ahead p hp in (
      λ r. (e ∙ r.0, r.1, r.2 ∙ sym (X.after p hp (omega (arith, r.0, r.1)))),
      λ r. let a : M.ahead p ≡ x = sym e ∙ r.0 in (a, r.1, r.2 ∙ X.after p hp (omega (arith, a, r.1))),
    );
    terminal = λ p hp. let s = terminal-ahead M p in (λ h. s.0 (sym (reads_is p hp) ∙ h), λ b. reads_is p hp ∙ s.1 b);
  }

-- so they are ready for the walk
pub ready_of : (M : Moves) → Regular M → (t m Q : ℕ) → Q ≡ M.states → (new : Tables) → Shows M t m new
    → Ready M new.ahead new.after new.number new.member new.target t m Q
ready_of M R t m Q e new X = record { regular = R; size = e; rows = rows_say M t m new X }
