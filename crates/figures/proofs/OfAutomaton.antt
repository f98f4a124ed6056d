-- M is the number of an automaton's moves, whatever its states are: the length of every list that has each of them once, and there
-- is such a list. Assumes nothing.
use Prim.Native.Nat.{ℕ, ◌<◌}
use mathlib.Core.Path.{◌≡◌, refl, sym, ap, subst, ◌∙◌}
use mathlib.Core.Logic.{inl, inr}
use mathlib.Core.List.{List, [], ◌∷◌, map}
use native.Mathlib.Omega.{arith}
use lib.ListN.{length}
use Rattle.grammar.specs.Basics.{Mem, here, there, Distinct, none, more}
use Rattle.grammar.proofs.Lists.{no_element, in_map}
use Rattle.grammar.proofs.Plain.{mem_cases}
use Rattle.automaton.specs.Automaton.{Automaton}
use Rattle.automaton.specs.Moves.{Moves, listed, Regular, Lists}
use Rattle.automaton.specs.Strings.{Letter, opening, closing, symbol, MovesBy}
use Rattle.automaton.specs.AllMoves.{Moved, moved, all_moves, move_count, MoveOf, ListsMoves}
use Rattle.triple_laws.proofs.Members.{of_map, distinct_image}
use Rattle.figures.proofs.MovesExact.{moves_exact, moves_distinct, moves_cardinal, moves-of}

map-long : {A B : Type 0} (f : A → B) (l : List A) → length (map f l) ≡ length l
map-long f [] = refl
map-long f (a ∷ l) = omega (arith, map-long f l)

of_distinct : {A B : Type 0} (f : A → B) (l : List A) → Distinct (map f l) → Distinct l
of_distinct f [] d = none
of_distinct f (a ∷ l) (more n d) = more (λ m. n (in_map f m)) (of_distinct f l d)

module _ (A : Automaton) (M : Moves) (R : Regular M) (N : Lists A M)
    (starts : (l : Letter) (s t : A.State) → MovesBy A l s t → A.number s < A.states) where
  abbrev n : A.State → ℕ
  n = A.number

  abbrev numbered : MoveOf A → Moved
  numbered e = moved (n e.from) e.by (n e.to)

  -- moves lead to states
  leads_below : (l : Letter) (p q : ℕ) → MovesBy (listed M) l p q → q < M.states
  unfolding MovesBy
  leads_below (opening i) p q h = R.opens-below i p q h
  leads_below (closing i) p q h = R.closes-below i p q h
  leads_below (symbol x) p q h = subst (λ q. q < M.states) (sym h.2) (R.shifts-below p (omega (arith, h.0, h.1)))

  ends : (l : Letter) (s t : A.State) → MovesBy A l s t → n t < A.states
  ends l s t h =
      let m = (moves-of A M N l s t (starts l s t h)).1 h in
      let x = (moves_exact M (moved (n s) l (n t))).0 m in
      omega (arith, leads_below l (n s) (n t) x.1, N.states)

  -- moves with the same numbers are the same
  numbered_apart : (a c : MoveOf A) → MovesBy A a.by a.from a.to → MovesBy A c.by c.from c.to → numbered a ≡ numbered c → a ≡ c
  numbered_apart a c h k e =
      let x = N.one a.from c.from (starts a.by a.from a.to h) (ap (λ (m : Moved). m.from) e) in
      let y = N.one a.to c.to (ends a.by a.from a.to h) (ap (λ (m : Moved). m.to) e) in
      let z : a.by ≡ c.by = ap (λ (m : Moved). m.by) e in
      λ i. record { from = x i; by = z i; to = y i }

  -- the move of two numbers is that of the states
  of_number : (e : Moved) → Mem e (all_moves M) → (d : MoveOf A) × (numbered d ≡ e) × MovesBy A d.by d.from d.to
  of_number e m =
      let x = (moves_exact M e).0 m in
      let s = N.every e.from (omega (arith, x.0, N.states)) in
      let t = N.every e.to (omega (arith, leads_below e.by e.from e.to x.1, N.states)) in
      let q : moved (n s.0) e.by (n t.0) ≡ e = λ i. moved (s.1 i) e.by (t.1 i) in (
        record { from = s.0; by = e.by; to = t.0 },
        q,
        (moves-of A M N e.by s.0 t.0 (omega (arith, s.1, x.0, N.states))).0 (subst (λ e. Mem e (all_moves M)) (sym q) m),
      )

  -- M is the length of every list that has each move of the automaton once
  pub cardinal_of : (l : List (MoveOf A)) → ListsMoves A l → length l ≡ move_count M
  cardinal_of l h =
      sym (map-long numbered l)
      ∙ moves_cardinal M R (map numbered l)
      (distinct_image l numbered h.distinct (λ a c u v. numbered_apart a c ((h.moves a).0 u) ((h.moves c).0 v)))
      (λ e. (
        λ m.
            let o = (of_map l numbered).0 m in
            let d = o.0 in
            let g = (h.moves d).0 o.1 in
            (moves_exact M e).0 (subst (λ e. Mem e (all_moves M)) (sym o.2) ((moves-of A M N d.by d.from d.to (starts d.by d.from d.to g)).1 g)),
        λ x.
            let d = of_number e ((moves_exact M e).1 x) in
            (of_map l numbered).1 (d.0, (h.moves d.0).1 d.2, sym d.1),
      ))

  -- there is one
  behind : (l : List Moved) → ((e : Moved) → Mem e l → Mem e (all_moves M)) → (k : List (MoveOf A)) × (map numbered k ≡ l) × ((d : MoveOf A) → Mem d k → MovesBy A d.by d.from d.to)
  behind [] h = ([], refl, λ d m. absurd (no_element m))
  behind (e ∷ l) h =
      let d = of_number e (h e here) in
      let r = behind l (λ e m. h e (there m)) in (
        d.0 ∷ r.0,
        (λ i. d.1 i ∷ r.1 i),
        λ c m. elim (mem_cases m) [
          | inl q ↦ subst (λ (c : MoveOf A). MovesBy A c.by c.from c.to) q d.2
          | inr k ↦ r.2 c k
        ],
      )

  pub some_list : (l : List (MoveOf A)) × ListsMoves A l
  some_list =
      let b = behind (all_moves M) (λ e m. m) in (
        b.0,
        record {
          distinct = of_distinct numbered b.0 (subst Distinct (sym b.1) (moves_distinct M R));
          moves = λ d. (
            b.2 d,
            λ g.
                let m = (moves-of A M N d.by d.from d.to (starts d.by d.from d.to g)).1 g in
                let o = (of_map b.0 numbered).0 (subst (Mem (numbered d)) (sym b.1) m) in
                subst (λ c. Mem c b.0) (sym (numbered_apart d o.0 g (b.2 o.0 o.1) o.2)) o.1,
          );
        },
      )
