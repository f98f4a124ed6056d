-- What is refused before the trees of one sentence are looked for: the computed place of a row is its first fault or its length, and
-- the refusals come in their order. Assumes nothing.
use Prim.Native.Nat.{ℕ, zero, suc, ◌≤◌, ◌<◌}
use mathlib.Core.Path.{◌≡◌, refl, ap, sym, subst, ◌∙◌}
use mathlib.Core.Bool.{Bool, true, false}
use mathlib.Core.List.{List, [], ◌∷◌}
use mathlib.Core.Logic.{◌⊎◌, inl, inr}
use native.Mathlib.Omega.{arith}
use borrow.Author.Tests.{le-leb, lt-leb, leb-true}
use lib.Dec.{leb}
use lib.ListN.{length, get_or}
use Rattle.grammar.specs.Basics.{choose}
use Rattle.grammar.specs.Limits.{limits}
use Rattle.grammar.specs.Grammar.{Terminal, Grammar}
use Rattle.grammar.specs.Refusal.{Answer, done, refused, refuse_unless, buffer_too_short, row_wrong}
use Rattle.grammar.specs.TableCheck.{is_terminal, check_table}
use Rattle.grammar.proofs.Answers.{no_bool, done_inj, unless_holds, unless_fails, unless_done, then-done, then-goes, then_stops}
use Rattle.grammar.proofs.Lists.{lt_or_le}
use Rattle.grammar.proofs.Plain.{is_terminal_lem}
use Rattle.grammar.specs.declared.Cause.{Cause}
use Rattle.trees.specs.Trees.{row_fault, max_row, work_size, check_row}
use Rattle.ambiguity.specs.Entries.{Stores}
use Rattle.ambiguity.specs.Trees.{IsRow, FaultAt}
use Rattle.ambiguity.proofs.Entries.{stores, checked}

module _ (t : ℕ) where
  -- k terminals stand in front of the row, and a further place is at fault, where at most m may stand
  record Front (m : ℕ) (w : List ℕ) (k : ℕ) : Type 0 where
    within : k ≤ length w
    few : k ≤ m
    earlier : (i : ℕ) → i < k → Terminal t (get_or w i 0)
    stops : k < length w → (k ≡ m) ⊎ ¬ Terminal t (get_or w k 0)

  front : (m : ℕ) (w : List ℕ) → Front m w (row_fault t m w)
  unfolding row_fault
  front zero w = record { within = omega arith; few = omega arith; earlier = λ i h. absurd (omega arith); stops = λ h. inl refl }
  front (suc m) [] = record { within = omega arith; few = omega arith; earlier = λ i h. absurd (omega arith); stops = λ h. absurd (omega arith) }
  front (suc m) (a ∷ w) = go (is_terminal t a) refl (front m w)
    where
      go : (b : Bool) → is_terminal t a ≡ b → Front m w (row_fault t m w) → Front (suc m) (a ∷ w) (choose b (suc (row_fault t m w)) 0)
      go true e f =
          record {
            within = omega (arith, f.within);
            few = omega (arith, f.few);
            earlier = first;
            stops = λ h. elim (f.stops (omega arith)) [
              | inl q ↦ inl (ap suc q)
              | inr n ↦ inr n
            ];
          }
        where
          first : (i : ℕ) → i < suc (row_fault t m w) → Terminal t (get_or (a ∷ w) i 0)
          first zero h = (is_terminal_lem t a).0 e
          first (suc i) h = f.earlier i (omega arith)
      go false e f = record { within = omega arith; few = omega arith; earlier = λ i h. absurd (omega arith); stops = λ h. inr (λ x. no_bool (sym ((is_terminal_lem t a).1 x) ∙ e)) }

  module _ (w : List ℕ) where
    -- the first fault is the computed place
    pub fault_place : (at : ℕ) → FaultAt t w at → row_fault t max_row w ≡ at
    fault_place at x = elim (lt_or_le (row_fault t max_row w) at) [
      | inl k ↦ absurd (before k)
      | inr k ↦ elim (lt_or_le at (row_fault t max_row w)) [
        | inl l ↦ absurd (after l)
        | inr l ↦ omega arith
      ]
    ]
      where
        f : Front max_row w (row_fault t max_row w)
        f = front max_row w

        before : row_fault t max_row w < at → ⊥
        before k = elim (f.stops (omega (arith, x.inside))) [
          | inl q ↦ omega (arith, x.few)
          | inr n ↦ n (x.earlier (row_fault t max_row w) k)
        ]

        after : at < row_fault t max_row w → ⊥
        after k = elim x.fault [
          | inl q ↦ omega (arith, f.few)
          | inr n ↦ n (f.earlier at k)
        ]

    -- in a row of terminals it is the length
    pub row_passes : IsRow t w → length w ≤ row_fault t max_row w
    row_passes x = elim (lt_or_le (row_fault t max_row w) (length w)) [
      | inl k ↦ elim ((front max_row w).stops k) [
        | inl q ↦ omega (arith, x.few)
        | inr n ↦ absurd (n (x.terminals (row_fault t max_row w) k))
      ]
      | inr k ↦ k
    ]

    -- and only there
    pub passes_row : length w ≤ row_fault t max_row w → IsRow t w
    passes_row k = let f = front max_row w in record { few = omega (arith, f.few); terminals = λ i h. f.earlier i (omega arith) }

    -- every row is one of the two
    pub fault_or_row : ((at : ℕ) × FaultAt t w at) ⊎ IsRow t w
    fault_or_row = let f = front max_row w in elim (lt_or_le (row_fault t max_row w) (length w)) [
      | inl k ↦ inl (row_fault t max_row w, record { inside = k; few = f.few; earlier = f.earlier; fault = f.stops k })
      | inr k ↦ inr (passes_row k)
    ]

-- the refusals in their order: of the table, of the row, of the work row
module _ (t n : ℕ) (table w work : List ℕ) where
  -- what comes after the table check
  abbrev go_on : Grammar → Answer Grammar
  go_on G =
      refuse_unless row_wrong (row_fault t max_row w) (leb (length w) (row_fault t max_row w))
      (refuse_unless buffer_too_short 0 (leb (work_size G) (length work)) (done G))

  pub table_stops : (cause : Cause) (at : ℕ) → check_table limits t n table ≡ refused cause at → check_row limits t n table w work ≡ refused cause at
  unfolding check_row
  table_stops = then_stops (check_table limits t n table) go_on

  pub row_stops : (G : Grammar) → Stores t n table G → (at : ℕ) → FaultAt t w at → check_row limits t n table w work ≡ refused row_wrong at
  unfolding check_row
  row_stops G s at x =
      let e = fault_place t w at x in
      then-goes (check_table limits t n table) go_on G (checked t n table G s)
      ∙ unless_fails row_wrong (row_fault t max_row w) _ _ (lt-leb (length w) (row_fault t max_row w) (omega (arith, x.inside)))
      ∙ ap (λ (at : ℕ). refused row_wrong at) e

  row_goes : (G : Grammar) → Stores t n table G → IsRow t w
      → check_row limits t n table w work ≡ refuse_unless buffer_too_short 0 (leb (work_size G) (length work)) (done G)
  unfolding check_row
  row_goes G s x =
      then-goes (check_table limits t n table) go_on G (checked t n table G s)
      ∙ unless_holds row_wrong (row_fault t max_row w) _ _ (le-leb _ _ (row_passes t w x))

  pub work_stops : (G : Grammar) → Stores t n table G → IsRow t w → length work < work_size G → check_row limits t n table w work ≡ refused buffer_too_short 0
  work_stops G s x h = row_goes G s x ∙ unless_fails buffer_too_short 0 _ _ (lt-leb _ _ h)

  pub nothing_stops : (G : Grammar) → Stores t n table G → IsRow t w → work_size G ≤ length work → check_row limits t n table w work ≡ done G
  nothing_stops G s x h = row_goes G s x ∙ unless_holds buffer_too_short 0 _ _ (le-leb _ _ h)

  -- what passed
  pub row-passed : (G : Grammar) → check_row limits t n table w work ≡ done G → Stores t n table G × IsRow t w
  unfolding check_row
  row-passed G e =
      let x = then-done (check_table limits t n table) go_on G e in
      let y = unless_done row_wrong (row_fault t max_row w) (leb (length w) (row_fault t max_row w)) _ G x.2 in
      let z = unless_done buffer_too_short 0 (leb (work_size x.0) (length work)) (done x.0) G y.1 in
      (subst (Stores t n table) (done_inj z.1) (stores t n table x.0 x.1), passes_row t w (leb-true _ _ y.0))
