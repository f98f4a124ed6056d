-- The position automaton: its moves are those that are counted, and what it enters can be left, so the bound holds.
-- Assumes nothing.
use Prim.Native.Nat.{ℕ, suc, ◌≤◌, ◌<◌}
use mathlib.Core.Path.{◌≡◌, refl, ap, subst}
use mathlib.Core.Bool.{Bool, true}
use mathlib.Core.Logic.{◌⊎◌, inl, inr, ◌↔◌}
use mathlib.Core.List.{List}
use native.Mathlib.Omega.{arith}
use native.Mathlib.Decide.{ℕ_discrete}
use lib.ListN.{length, get_or}
use Rattle.grammar.specs.Basics.{Mem, Distinct}
use Rattle.grammar.specs.Limits.{Limits}
use Rattle.grammar.specs.Grammar.{Grammar, WellFormed, IsRule, rule}
use Rattle.grammar.specs.Live.{Live, is_live}
use Rattle.grammar.proofs.Live.{is_live_lem}
use Rattle.automaton.specs.Items.{states, length_of, base, Item, Before}
use Rattle.automaton.specs.Position.{Opens, opens-start, opens-rule, Closes, closes-start, closes-rule, position}
use Rattle.automaton.specs.PositionMoves.{ahead_row, ahead, moves_by, moves_of}
use Rattle.automaton.specs.Strings.{Letter, opening, closing, symbol, MovesBy}
use Rattle.automaton.specs.AllMoves.{Moved, all_moves, move_count}
use Rattle.automaton.proofs.Items.{base-low, one_item, opens-below, closes-below, shifts-below}
use Rattle.triples.specs.Looked.{looked_at, looked_limit}
use Rattle.triple_laws.proofs.Moves.{ahead_before, opening-listed, closing-listed, before-code}
use Rattle.triple_laws.proofs.Position.{position-listed, position-regular}
use Rattle.figures.proofs.Opened.{Entered, by-opening, by_shift, Leavable}
use Rattle.figures.proofs.Bound.{looked_limit_lem}
use Rattle.figures.proofs.MovesExact.{moves_exact, moves-of, moves_cardinal}

module _ (L : Limits) (G : Grammar) (T : ℕ → Type 0) where
  -- p is an item of a rule that is taken, of rule 0 or of one that some state calls
  record Called (p : ℕ) : Type 0 where
    number : ℕ
    dot : ℕ
    item : Item L G p number dot
    taken : T number
    by : (number ≡ 0) ⊎ (IsRule G number × ((r : ℕ) × Before L G T (rule L G number).left r))

  opened : {i p q : ℕ} → Opens L G T i p q → Called q
  unfolding base
  opened (opens-start l e f g) = record {
    number = 0;
    dot = 0;
    item = record { rule = omega arith; dot = omega arith; state = omega arith };
    taken = l;
    by = inl refl;
  }
  opened {i} {p} (opens-rule r l b e) = record {
    number = i;
    dot = 0;
    item = record { rule = r.1; dot = omega arith; state = omega arith };
    taken = l;
    by = inr (r, (p, b));
  }

  shifted : {x p : ℕ} → Before L G T x p → Called p → Called (suc p)
  shifted b c =
      let o = one_item L G c.item b.item in
      record {
        number = c.number;
        dot = suc c.dot;
        item = record { rule = c.item.rule; dot = omega (arith, b.inside, o.1, ap (length_of L G) o.0); state = omega (arith, c.item.state) };
        taken = c.taken;
        by = c.by;
      }

  opens_up : {i p q : ℕ} → Opens L G T i p q → 0 < q
  opens_up (opens-start l e f g) = omega arith
  opens_up {i} (opens-rule r l b e) = omega (arith, base-low L G i)

  closes_up : {i p q : ℕ} → Closes L G T i p q → 0 < q
  closes_up (closes-start l e f g) = omega arith
  closes_up (closes-rule r l e b f) = omega arith

  -- a called rule that is at its end closes
  called-closes : {p : ℕ} (c : Called p) → c.dot ≡ length_of L G c.number → (i q : ℕ) × Closes L G T i p q
  unfolding base rule
  called-closes {p} c e = at c.by
    where
      at : (c.number ≡ 0) ⊎ (IsRule G c.number × ((r : ℕ) × Before L G T (rule L G c.number).left r)) → (i q : ℕ) × Closes L G T i p q
      at (inl z) =
          let three : p ≡ 3 = omega (arith, c.item.state, e, ap (base L G) z, ap (length_of L G) z) in
          (0, 1, closes-start (subst T z c.taken) refl three refl)
      at (inr (r, (s, b))) = (c.number, suc s, closes-rule r c.taken (omega (arith, c.item.state, e)) b refl)

start-ahead : (L : Limits) (G : Grammar) (taken : ℕ → Bool) → ahead L G taken 0 ≡ 0
unfolding ahead_row
start-ahead L G taken = refl

module _ (L : Limits) (G : Grammar) (T : ℕ → Type 0) (taken : ℕ → Bool) (says : (i : ℕ) → i ≤ length G.rules → (taken i ≡ true) ↔ T i)
    (W : WellFormed L G) (apart : L.max_terminals < L.nonterminal_base) where
  called : {p : ℕ} → Entered (moves_by L G taken) p → Called L G T p
  called (by-opening {i} {p} {q} m) = opened L G T ((opening-listed L G T taken says W apart i p q).0 m)
  called (by_shift {p} e h) = shifted L G T ((ahead_before L G T taken says (ahead L G taken p) p h).0 refl) (called e)

  reads : {x p : ℕ} → Before L G T x p → 1 ≤ ahead L G taken p
  reads {x} {p} b =
      let h = before-code L G T taken says W apart b in
      omega (arith, h, (ahead_before L G T taken says x p h).1 b)

  -- an item of a called rule stands before a symbol, or closes
  called_on : {p : ℕ} → Called L G T p → (1 ≤ ahead L G taken p) ⊎ ((i q : ℕ) × Closes L G T i p q)
  called_on {p} c = elim (ℕ_discrete c.dot (length_of L G c.number)) [
    | no n ↦
        let b : Before L G T (get_or (rule L G c.number).right c.dot 0) p = record {
          number = c.number;
          place = c.dot;
          item = c.item;
          inside = omega (arith, c.item.dot, n);
          symbol = refl;
          taken = c.taken;
        } in
        inl (reads b)
    | yes e ↦ inr (called-closes L G T c e)
  ]

  -- what is entered can be left, whichever rules are taken
  pub by_leavable : Leavable (moves_by L G taken)
  by_leavable = record {
    nothing-ahead = start-ahead L G taken;
    opens-past = λ i p q m. opens_up L G T ((opening-listed L G T taken says W apart i p q).0 m);
    closes-past = λ i p q m. closes_up L G T ((closing-listed L G T taken says W apart i p q).0 m);
    goes_on = λ p e. elim (called_on (called e)) [
      | inl h ↦ inl h
      | inr c ↦ inr (c.0, c.1, (closing-listed L G T taken says W apart c.0 p c.1).1 c.2)
    ];
  }

module _ (L : Limits) (G : Grammar) where
  starts-below : (l : Letter) (p q : ℕ) → MovesBy (position L G) l p q → p < states G
  unfolding MovesBy
  starts-below (opening i) p q h = (opens-below L G (Live L G) h).0
  starts-below (closing i) p q h = (closes-below L G (Live L G) h).0
  starts-below (symbol x) p q h = (shifts-below L G (Live L G) h).0

module _ (L : Limits) (G : Grammar) (W : WellFormed L G) (apart : L.max_terminals < L.nonterminal_base) where
  -- the moves that are counted are those of the position automaton
  pub position-moves : (e : Moved) → Mem e (all_moves (moves_of L G)) ↔ MovesBy (position L G) e.by e.from e.to
  position-moves e =
      let N = position-listed L G W apart in
      let x = moves_exact (moves_of L G) e in (
        λ m. (moves-of (position L G) (moves_of L G) N e.by e.from e.to (x.0 m).0).0 m,
        λ h. (moves-of (position L G) (moves_of L G) N e.by e.from e.to (starts-below L G e.by e.from e.to h)).1 h,
      )

  -- and M is the length of every list that has each of them once
  pub position_cardinal : (l : List Moved) → Distinct l → ((e : Moved) → Mem e l ↔ MovesBy (position L G) e.by e.from e.to)
      → length l ≡ move_count (moves_of L G)
  position_cardinal l d h =
      moves_cardinal (moves_of L G) (position-regular L G W apart) l d
      (λ e. let x = moves_exact (moves_of L G) e in let y = position-moves e in
      (λ m. x.0 (y.1 ((h e).0 m)), λ r. (h e).1 (y.0 (x.1 r))))

  -- what it enters can be left
  pub position_leavable : Leavable (moves_of L G)
  position_leavable = by_leavable L G (Live L G) (is_live L G) (is_live_lem L G W apart) W apart

  -- so the search looks at no more than M² + 2×Q×M successors
  pub position_limit : looked_at (moves_of L G) ≤ looked_limit (moves_of L G)
  position_limit = looked_limit_lem (moves_of L G) (position-regular L G W apart) position_leavable
