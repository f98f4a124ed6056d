-- The walk along a row: each step adds the letters of the one record that leads on. Assumes nothing.
use Rattle.std.specs.Prelude.{Option, Some}
use Prim.Native.Nat.{ℕ, zero, suc, ◌+◌, ◌-◌, ◌/◌, ◌≤◌, ◌<◌}
use mathlib.Core.Path.{◌≡◌, refl, sym, ap, subst, ◌∙◌}
use mathlib.Core.List.{List, [], ◌∷◌, ◌++◌, append-nil, append_assoc}
use native.Mathlib.Omega.{arith}
use native.Mathlib.Numerals.{add-one}
use native.Mathlib.Nat.{mod-lt}
use lib.ListN.{length, get_or, take}
use lib.Seq.{take_all}
use Rattle.grammar.specs.Basics.{each}
use Rattle.automaton.specs.Moves.{Moves}
use Rattle.automaton.specs.Strings.{Letter}
use Rattle.triples.specs.Index.{layer_of, left_of, right_of}
use Rattle.triples.specs.Sides.{letters, records_to, side_of, OneEach}
use Rattle.triples.specs.declared.Move.{Move}
use Rattle.triples.specs.declared.Step.{Step}
use Rattle.steps.specs.Plan.{Rows}
use Rattle.witness_sides.specs.Clauses.{FrontLetters, Appended, steps_to, first_of, step_found, GivesRecords}

module _ (M : Moves) where
  -- the one record between neighbours
  one_at : (row : List ℕ) (x : ℕ) → OneEach M row → suc x < length row
      → (s : Step) × (records_to M (get_or row x 0) (get_or row (suc x) 0) ≡ s ∷ [])
  one_at [] x o h = absurd (omega arith)
  one_at (i ∷ []) x o h = absurd (omega arith)
  one_at (i ∷ j ∷ row) zero o h = o.0
  one_at (i ∷ j ∷ row) (suc x) o h = one_at (j ∷ row) x o.1 (omega arith)

  -- is what the search found
  found-one : (R : Rows) (Q i j : ℕ) (s : Step) → 0 < Q → GivesRecords M R Q → records_to M i j ≡ s ∷ [] → step_found R Q i j ≡ Some s
  unfolding records_to steps_to
  found-one R Q i j s h g e =
      let n : 0 < M.states = omega (arith, g.size) in
      ap (λ (Q : ℕ). step_found R Q i j) g.size
      ∙ ap (λ (l : List Step). first_of (steps_to M.states l j)) (g.same (layer_of M.states i) (left_of M.states i) (right_of M.states i) (mod-lt (i / M.states) n) (mod-lt i n))
      ∙ ap first_of e

  module _ (side : Step → Move) where
    -- no step; one step more
    no_side : (row : List ℕ) → side_of M side (take 1 row) ≡ []
    unfolding side_of
    no_side [] = refl
    no_side (i ∷ row) = refl

    side-next : (row : List ℕ) (x : ℕ) (s : Step) → suc x < length row → records_to M (get_or row x 0) (get_or row (suc x) 0) ≡ s ∷ []
        → side_of M side (take (suc (suc x)) row) ≡ side_of M side (take (suc x) row) ++ letters (side s)
    unfolding side_of each
    side-next [] x s h e = absurd (omega arith)
    side-next (i ∷ []) x s h e = absurd (omega arith)
    side-next (i ∷ j ∷ row) zero s h e =
        append-nil (each (records_to M i j) (λ s. letters (side s)))
        ∙ ap (λ (l : List Step). each l (λ s. letters (side s))) e ∙ append-nil (letters (side s))
    side-next (i ∷ j ∷ row) (suc x) s h e =
        let u = each (records_to M i j) (λ s. letters (side s)) in
        ap (λ (v : List Letter). u ++ v) (side-next (j ∷ row) x s (omega arith) e)
        ∙ sym (append_assoc u (side_of M side (take (suc x) (j ∷ row))) (letters (side s)))

    -- the front before the first step; after one step more; after the last
    pub letters-none : (row old : List ℕ) → FrontLetters (side_of M side (take 1 row)) 0 old
    letters-none row old = rw (no_side row) (record { long = refl; front = refl; fits = omega arith })

    letters-more : (R : Rows) (Q : ℕ) → 0 < Q → GivesRecords M R Q → (row : List ℕ) → OneEach M row → (x : ℕ) → x + 1 < length row
        → (s : Step) → Some s ≡ step_found R Q (get_or row x 0) (get_or row (x + 1) 0)
        → (count r : ℕ) (old new : List ℕ) → Appended (side s) count old r new → FrontLetters (side_of M side (take (x + 1) row)) count old
        → FrontLetters (side_of M side (take (x + 1 + 1) row)) r new
    letters-more R Q h g row one x l s e count r old new put w =
        let o = one_at row x one (omega arith) in
        let q : Some s ≡ Some o.0 = e ∙ ap (λ (k : ℕ). step_found R Q (get_or row x 0) (get_or row k 0)) (add-one x) ∙ found-one R Q (get_or row x 0) (get_or row (suc x) 0) o.0 h g o.1 in
        let z : s ≡ o.0 = cc in
        let two : x + 1 + 1 ≡ suc (suc x) = omega arith in
        subst (λ (u : List Letter). FrontLetters u r new)
        (ap (λ (s : Step). side_of M side (take (x + 1) row) ++ letters (side s)) z
        ∙ ap (λ (k : ℕ). side_of M side (take k row) ++ letters (side o.0)) (add-one x)
        ∙ sym (ap (λ (k : ℕ). side_of M side (take k row)) two ∙ side-next row x o.0 (omega arith) o.1))
        (put (side_of M side (take (x + 1) row)) w)

    -- the step from the entry before y to entry y
    pub letters-next : (R : Rows) (Q : ℕ) → 0 < Q → GivesRecords M R Q → (row : List ℕ) → OneEach M row → (y : ℕ) → 1 ≤ y → y < length row
        → (s : Step) → Some s ≡ step_found R Q (get_or row (y - 1) 0) (get_or row y 0)
        → (count r : ℕ) (old new : List ℕ) → Appended (side s) count old r new → FrontLetters (side_of M side (take y row)) count old
        → FrontLetters (side_of M side (take (y + 1) row)) r new
    letters-next R Q h g row one y l k s e count r old new put w =
        let x : ℕ = y - 1 in
        let z : x + 1 ≡ y = omega arith in
        subst (λ (y : ℕ). y < length row → Some s ≡ step_found R Q (get_or row x 0) (get_or row y 0) → FrontLetters (side_of M side (take y row)) count old
        → FrontLetters (side_of M side (take (y + 1) row)) r new) z
        (λ k e w. letters-more R Q h g row one x k s e count r old new put w) k e w

    pub letters-all : (row : List ℕ) (y count : ℕ) (new : List ℕ) → length row ≤ y → FrontLetters (side_of M side (take y row)) count new
        → FrontLetters (side_of M side row) count new
    letters-all row y count new h w = subst (λ (l : List ℕ). FrontLetters (side_of M side l) count new) (take_all y row h) w

  -- there is a step
  pub some-step : (R : Rows) (Q : ℕ) → 0 < Q → GivesRecords M R Q → (row : List ℕ) → OneEach M row → (y : ℕ) → 1 ≤ y → y < length row
      → (found : Option Step) → found ≡ step_found R Q (get_or row (y - 1) 0) (get_or row y 0) → ((s : Step) → found ≡ Some s → ⊥) → ⊥
  some-step R Q h g row one y l k found e other =
      let x : ℕ = y - 1 in
      let z : y ≡ suc x = omega arith in
      let o = one_at row x one (omega arith) in
      other o.0 (e ∙ ap (λ (y : ℕ). step_found R Q (get_or row x 0) (get_or row y 0)) z ∙ found-one R Q (get_or row x 0) (get_or row (suc x) 0) o.0 h g o.1)
