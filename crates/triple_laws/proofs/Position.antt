-- The lists of the position automaton are its moves, and regular; over all rules as over the live ones.
-- Assumes nothing.
use Prim.Native.Nat.{ℕ, suc, ◌≤◌, ◌<◌}
use mathlib.Core.Path.{◌≡◌, refl}
use mathlib.Core.Bool.{Bool, true}
use mathlib.Core.Logic.{◌↔◌}
use lib.ListN.{length}
use native.Mathlib.Omega.{arith}
use Rattle.grammar.specs.Limits.{Limits}
use Rattle.grammar.specs.Grammar.{Terminal, Grammar, rule, WellFormed}
use Rattle.grammar.specs.Live.{Live, is_live}
use Rattle.grammar.proofs.Derives.{rule-listed}
use Rattle.grammar.proofs.Live.{is_live_lem}
use Rattle.automaton.specs.Items.{Before}
use Rattle.automaton.specs.Moves.{Regular, Lists}
use Rattle.automaton.specs.Position.{Opens, opens-start, opens-rule, position_of, position, every}
use Rattle.automaton.specs.PositionMoves.{ahead, moves_by, moves_of}
use Rattle.automaton.proofs.Items.{states_four, one_item, before-below, opens-below, closes-below}
use Rattle.triple_laws.proofs.Moves.{ahead_before, opening-listed, closing-listed, shift_ahead}
use Rattle.triple_laws.proofs.MoveDoubles.{openings_distinct, closings_distinct}
use Rattle.triple_laws.proofs.Classes.{one_symbol, before-low, before_no_close, one-closing, one-opening, opens_no_close}

module _ (L : Limits) (G : Grammar) (T : ℕ → Type 0) (taken : ℕ → Bool) (says : (i : ℕ) → i ≤ length G.rules → (taken i ≡ true) ↔ T i)
    (W : WellFormed L G) (apart : L.max_terminals < L.nonterminal_base) where
  -- the lists are the moves
  pub by-listed : Lists (position_of L G T) (moves_by L G taken)
  by-listed = record {
    states = refl;
    terminal = λ x. (λ t. t, λ t. t);
    first = refl;
    last = refl;
    every = λ p h. (p, refl);
    one = λ s t h e. e;
    opens = λ i s t. let o = opening-listed L G T taken says W apart i s t in (o.1, o.0);
    closes = λ i s t. let o = closing-listed L G T taken says W apart i s t in (o.1, o.0);
    shifts = shift_ahead L G T taken says W apart;
  }

  -- a state before a terminal does not open
  terminal_no_open : {i p q : ℕ} → Terminal G.terminals (ahead L G taken p) → Opens L G T i p q → ⊥
  terminal_no_open {p = p} t (opens-start l e f g) =
      omega (arith, before-low L G T ((ahead_before L G T taken says (ahead L G taken p) p t.0).0 refl))
  terminal_no_open {i} {p} t (opens-rule r l b e) =
      let z = one_symbol L G T ((ahead_before L G T taken says (ahead L G taken p) p t.0).0 refl) b in
      omega (arith, t.1, apart, W.terminals, (W.lefts (rule L G i) (rule-listed L G i r)).0)

  -- an opening leads to a rule's beginning, a shift past one
  opens_apart : {x i p q : ℕ} → Before L G T x p → Opens L G T i p q → ¬ (q ≡ suc p)
  opens_apart b (opens-start l f g k) e = omega (arith, before-low L G T b)
  opens_apart {x} {i} {p} {q} b (opens-rule w l c k) e =
      let o = one_item L G {p = q} {i = i} {j = b.number} {d = 0} {e = suc b.place} (record { rule = w.1; dot = omega arith; state = omega (arith, k) })
      (record { rule = b.item.rule; dot = b.inside; state = omega (arith, e, b.item.state) }) in
      omega (arith, o.1)

  -- and regular
  pub by-regular : Regular (moves_by L G taken)
  by-regular = record {
    four = states_four L G;
    opens-below = λ i p q m. (opens-below L G T ((opening-listed L G T taken says W apart i p q).0 m)).1;
    closes-below = λ i p q m. (closes-below L G T ((closing-listed L G T taken says W apart i p q).0 m)).1;
    shifts-below = λ p h. before-below L G T ((ahead_before L G T taken says (ahead L G taken p) p h).0 refl);
    later = λ p h. omega arith;
    opens_once = openings_distinct L G taken;
    closes_once = closings_distinct L G taken;
    one-opening = λ i j p q m n. one-opening L G T ((opening-listed L G T taken says W apart i p q).0 m) ((opening-listed L G T taken says W apart j p q).0 n);
    one-closing = λ i j p q r m n. one-closing L G T ((closing-listed L G T taken says W apart i p q).0 m) ((closing-listed L G T taken says W apart j p r).0 n);
    opens_apart = λ i p q h m. opens_apart ((ahead_before L G T taken says (ahead L G taken p) p h).0 refl) ((opening-listed L G T taken says W apart i p q).0 m);
    terminal_no_open = λ i p q t m. terminal_no_open t ((opening-listed L G T taken says W apart i p q).0 m);
    ahead_no_close = λ i p q h m. before_no_close L G T ((ahead_before L G T taken says (ahead L G taken p) p h).0 refl) ((closing-listed L G T taken says W apart i p q).0 m);
    opens_no_close = λ i j p q r m n. opens_no_close L G T ((opening-listed L G T taken says W apart i p q).0 m) ((closing-listed L G T taken says W apart j p r).0 n);
  }

module _ (L : Limits) (G : Grammar) (W : WellFormed L G) (apart : L.max_terminals < L.nonterminal_base) where
  -- the position automaton: live rules are taken
  pub position-listed : Lists (position L G) (moves_of L G)
  position-listed = by-listed L G (Live L G) (is_live L G) (is_live_lem L G W apart) W apart

  pub position-regular : Regular (moves_of L G)
  position-regular = by-regular L G (Live L G) (is_live L G) (is_live_lem L G W apart) W apart
