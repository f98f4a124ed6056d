-- The list of all moves has each move once, and no other: M is their number. Assumes nothing.
use Prim.Native.Nat.{ℕ, ◌<◌}
use mathlib.Core.Path.{◌≡◌, refl, sym, ap, subst, ◌∙◌}
use mathlib.Core.Logic.{inl, inr, ◌↔◌}
use mathlib.Core.List.{List, [], ◌∷◌, ◌++◌, map}
use native.Mathlib.Omega.{arith}
use lib.Dec.{leb}
use lib.ListN.{length}
use borrow.Author.Tests.{leb-true, le-leb}
use Rattle.grammar.specs.Basics.{when, Mem, Distinct}
use Rattle.automaton.specs.Automaton.{Automaton}
use Rattle.automaton.specs.Moves.{Moves, listed, Regular, Lists}
use Rattle.automaton.specs.Strings.{Letter, opening, closing, symbol, MovesBy}
use Rattle.triple_laws.proofs.Members.{only_one, one_only, mem_left, mem_right, mem_either, under-test, of-each, of_map, distinct_one, distinct_append, distinct_when, distinct_each, distinct_map, distinct_same, below_in, in_below, numbers_distinct}
use Rattle.automaton.specs.AllMoves.{numbers, Moved, moved, leaving, all_moves, move_count}

-- a letter's kind
kind_of : Letter → ℕ
kind_of (opening i) = 0
kind_of (closing i) = 1
kind_of (symbol x) = 2

number : Letter → ℕ
number (opening i) = i
number (closing i) = i
number (symbol x) = x

module _ (M : Moves) where
  abbrev by_opening : ℕ → ℕ × ℕ → Moved
  by_opening p m = moved p (opening m.0) m.1

  abbrev by_closing : ℕ → ℕ × ℕ → Moved
  by_closing p m = moved p (closing m.0) m.1

  abbrev by_shift_lem : ℕ → List Moved
  by_shift_lem p = when (leb 1 (M.ahead p)) (moved p (symbol (M.ahead p)) (M.after p) ∷ [])

  -- a move of the list is a move of the automaton
  moves_out : (p : ℕ) (e : Moved) → Mem e (leaving M p) → (e.from ≡ p) × MovesBy (listed M) e.by p e.to
  unfolding leaving MovesBy
  moves_out p e m = elim (mem_either (map (by_opening p) (M.openings p) ++ map (by_closing p) (M.closings p)) (by_shift_lem p) m) [
    | inl k ↦ elim (mem_either (map (by_opening p) (M.openings p)) (map (by_closing p) (M.closings p)) k) [
      | inl h ↦
          let o = (of_map (M.openings p) (by_opening p)).0 h in
          subst (λ (e : Moved). (e.from ≡ p) × MovesBy (listed M) e.by p e.to) (sym o.2) (refl, o.1)
      | inr h ↦
          let o = (of_map (M.closings p) (by_closing p)).0 h in
          subst (λ (e : Moved). (e.from ≡ p) × MovesBy (listed M) e.by p e.to) (sym o.2) (refl, o.1)
    ]
    | inr k ↦
        let u = (under-test (leb 1 (M.ahead p)) (moved p (symbol (M.ahead p)) (M.after p) ∷ [])).0 k in
        subst (λ (e : Moved). (e.from ≡ p) × MovesBy (listed M) e.by p e.to) (sym (only_one u.1))
        (refl, (refl, leb-true 1 (M.ahead p) u.0, refl))
  ]

  moves_in : (p q : ℕ) (l : Letter) → MovesBy (listed M) l p q → Mem (moved p l q) (leaving M p)
  unfolding leaving MovesBy
  moves_in p q (opening i) h =
      mem_left (by_shift_lem p) (mem_left (map (by_closing p) (M.closings p)) ((of_map (M.openings p) (by_opening p)).1 ((i, q), h, refl)))
  moves_in p q (closing i) h =
      mem_left (by_shift_lem p) (mem_right (map (by_opening p) (M.openings p)) ((of_map (M.closings p) (by_closing p)).1 ((i, q), h, refl)))
  moves_in p q (symbol x) h =
      let e : ◌≡◌ {A = Moved} (moved p (symbol x) q) (moved p (symbol (M.ahead p)) (M.after p)) = λ i. moved p (symbol (sym h.0 i)) (h.2 i) in
      mem_right (map (by_opening p) (M.openings p) ++ map (by_closing p) (M.closings p))
      ((under-test (leb 1 (M.ahead p)) (moved p (symbol (M.ahead p)) (M.after p) ∷ [])).1 (le-leb 1 (M.ahead p) (omega (arith, h.0, h.1)), one_only e))

  -- the moves listed are those of the automaton from the states below Q
  pub moves_exact : (e : Moved) → Mem e (all_moves M) ↔ ((e.from < M.states) × MovesBy (listed M) e.by e.from e.to)
  unfolding all_moves
  moves_exact e = (
    λ m.
        let o = (of-each (numbers M.states) (leaving M)).0 m in
        let r = moves_out o.0 e o.2 in (
          subst (λ (p : ℕ). p < M.states) (sym r.0) (in_below M.states o.0 o.1),
          subst (λ (p : ℕ). MovesBy (listed M) e.by p e.to) (sym r.0) r.1,
        ),
    λ h. (of-each (numbers M.states) (leaving M)).1 (e.from, below_in M.states e.from h.0, moves_in e.from e.to e.by h.1),
  )

  pairs_apart : (k : (ℕ × ℕ) → Moved) → ((a c : ℕ × ℕ) → k a ≡ k c → (a.0 ≡ c.0) × (a.1 ≡ c.1)) → (a c : ℕ × ℕ) → k a ≡ k c → a ≡ c
  pairs_apart k h a c e = let r = h a c e in λ i. (r.0 i, r.1 i)

module _ (M : Moves) (R : Regular M) where
  each_distinct : (p : ℕ) → Distinct (leaving M p)
  unfolding leaving kind_of number
  each_distinct p =
      distinct_append (map (by_opening M p) (M.openings p) ++ map (by_closing M p) (M.closings p)) (by_shift_lem M p)
      (distinct_append (map (by_opening M p) (M.openings p)) (map (by_closing M p) (M.closings p))
      (distinct_map (M.openings p) (by_opening M p) (R.opens_once p) (pairs_apart M (by_opening M p) (λ a c e. (ap (λ (m : Moved). number m.by) e, ap (λ (m : Moved). m.to) e))))
      (distinct_map (M.closings p) (by_closing M p) (R.closes_once p) (pairs_apart M (by_closing M p) (λ a c e. (ap (λ (m : Moved). number m.by) e, ap (λ (m : Moved). m.to) e))))
      (λ e h k.
      let a = (of_map (M.openings p) (by_opening M p)).0 h in
      let b = (of_map (M.closings p) (by_closing M p)).0 k in
      let z : 0 ≡ 1 = sym (ap (λ (m : Moved). kind_of m.by) a.2) ∙ ap (λ (m : Moved). kind_of m.by) b.2 in omega arith))
      (distinct_when (leb 1 (M.ahead p)) (moved p (symbol (M.ahead p)) (M.after p) ∷ []) (distinct_one (moved p (symbol (M.ahead p)) (M.after p))))
      (λ e h k.
      let s = only_one ((under-test (leb 1 (M.ahead p)) (moved p (symbol (M.ahead p)) (M.after p) ∷ [])).0 k).1 in
      elim (mem_either (map (by_opening M p) (M.openings p)) (map (by_closing M p) (M.closings p)) h) [
        | inl u ↦ let a = (of_map (M.openings p) (by_opening M p)).0 u in let z : 0 ≡ 2 = sym (ap (λ (m : Moved). kind_of m.by) a.2) ∙ ap (λ (m : Moved). kind_of m.by) s in omega arith
        | inr u ↦ let a = (of_map (M.closings p) (by_closing M p)).0 u in let z : 1 ≡ 2 = sym (ap (λ (m : Moved). kind_of m.by) a.2) ∙ ap (λ (m : Moved). kind_of m.by) s in omega arith
      ])

  -- each of them once
  pub moves_distinct : Distinct (all_moves M)
  unfolding all_moves
  moves_distinct = distinct_each (numbers M.states) (leaving M) (numbers_distinct M.states) (λ p m. each_distinct p)
      (λ p q e h k x y. sym (moves_out M p e x).0 ∙ (moves_out M q e y).0)

  -- so M is the length of every list that has each of them once
  pub moves_cardinal : (l : List Moved) → Distinct l → ((e : Moved) → Mem e l ↔ ((e.from < M.states) × MovesBy (listed M) e.by e.from e.to))
      → length l ≡ move_count M
  moves_cardinal l d h = distinct_same d moves_distinct (λ e. (λ m. (moves_exact M e).1 ((h e).0 m), λ m. (h e).1 ((moves_exact M e).0 m)))

module _ (A : Automaton) (M : Moves) (N : Lists A M) where
  same-moves : (l : Letter) (s t : A.State) → MovesBy A l s t ↔ MovesBy (listed M) l (A.number s) (A.number t)
  unfolding MovesBy
  same-moves (opening i) s t = N.opens i s t
  same-moves (closing i) s t = N.closes i s t
  same-moves (symbol x) s t = N.shifts x s t

  -- the moves listed are those of an automaton, by the numbers of its states
  pub moves-of : (l : Letter) (s t : A.State) → A.number s < A.states → Mem (moved (A.number s) l (A.number t)) (all_moves M) ↔ MovesBy A l s t
  moves-of l s t h =
      let e = moves_exact M (moved (A.number s) l (A.number t)) in
      let b = same-moves l s t in
      (λ m. b.1 (e.0 m).1, λ v. e.1 (omega (arith, N.states), b.0 v))
