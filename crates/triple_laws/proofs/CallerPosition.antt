-- With no caller remembered the automaton is the position automaton: its moves are the same by the numbers of the states, and so the
-- lists of the position automaton are its lists. Assumes nothing.
use Prim.Native.Nat.{ℕ, zero, suc, ◌+◌, ◌≤◌, ◌<◌}
use mathlib.Core.Path.{◌≡◌, refl, sym, ap, subst, ◌∙◌}
use mathlib.Core.Bool.{true}
use mathlib.Core.List.{[]}
use mathlib.Core.Logic.{◌↔◌}
use native.Mathlib.Omega.{arith}
use lib.ListN.{length}
use Rattle.grammar.specs.Limits.{Limits}
use Rattle.grammar.specs.Grammar.{Grammar, rule, WellFormed}
use Rattle.grammar.specs.Live.{Live, is_live}
use Rattle.grammar.proofs.Live.{is_live_lem}
use Rattle.automaton.specs.Items.{length_of, base, Item, Before}
use Rattle.automaton.specs.Moves.{Regular, Lists}
use Rattle.automaton.specs.Position.{Opens, opens-start, opens-rule, Closes, closes-start, closes-rule, Shifts, shifts}
use Rattle.automaton.specs.PositionMoves.{moves_of}
use Rattle.automaton.specs.Callers.{Spot, first, last, spot, Place, enough, SpotOpens, spot-start, spot-opens, SpotCloses, spot-ends, spot-closes, SpotShifts, spot-shifts, spots, number_of, callers}
use Rattle.automaton.specs.CallerMoves.{moves_with}
use Rattle.triple_laws.proofs.Position.{position-listed, position-regular}
use Rattle.triple_laws.proofs.Spots.{one_number, every_number}
use Rattle.triple_laws.proofs.CallerMoves.{state, same-state, number_first, number_last, first-state, last-state, callers-listed}
use Rattle.triple_laws.proofs.CallerRegular.{callers-regular}
use Rattle.triple_laws.proofs.CallerZero.{zero_number, zero-states}

module _ (L : Limits) (G : Grammar) (W : WellFormed L G) (apart : L.max_terminals < L.nonterminal_base) where
  abbrev n : Spot → ℕ
  n = number_of L G 0

  abbrev T : ℕ → Type 0
  T = Live L G

  before : {x j d : ℕ} → Place L G x j d → Before L G T x (n (spot j d []))
  before {x} {j} {d} p = record {
    number = j;
    place = d;
    item = record { rule = p.rule-of; dot = omega (arith, p.inside); state = zero_number L G j d p.rule-of (omega (arith, p.inside)) };
    inside = p.inside;
    symbol = p.symbol;
    taken = p.live;
  }

  two : n (spot 0 0 []) ≡ 2
  unfolding base
  two = let z = zero_number L G 0 0 (omega arith) (omega arith) in omega (arith, z)

  three : n (spot 0 1 []) ≡ 3
  unfolding base rule
  three = let z = zero_number L G 0 1 (omega arith) (omega arith) in omega (arith, z)

  past : (j d : ℕ) → j ≤ length G.rules → d < length_of L G j → n (spot j (suc d) []) ≡ suc (n (spot j d []))
  past j d h k = let a = zero_number L G j (suc d) h k in let b = zero_number L G j d h (omega arith) in omega (arith, a, b)

  opens-to : {i : ℕ} {s t : Spot} → SpotOpens L G 0 i s t → Opens L G T i (n s) (n t)
  opens-to (spot-start l) = opens-start l refl (number_first L G W apart 0) two
  opens-to {i} (spot-opens r l p enough) =
      opens-rule r l (before p) (let z = zero_number L G i 0 r.1 (omega arith) in let q : n (spot i 0 []) ≡ base L G i = omega (arith, z) in q)

  closes-to : {i : ℕ} {s t : Spot} → SpotCloses L G 0 i s t → Closes L G T i (n s) (n t)
  closes-to (spot-ends l e) = closes-start l refl (ap (λ e. n (spot 0 e [])) e ∙ three) (number_last L G W apart 0)
  closes-to {i} (spot-closes {j = j} {d = d} {e = k} r l p enough e q) =
      closes-rule r l
      (ap (λ ds. n (spot i k ds)) q ∙ ap (λ e. n (spot i e [])) e ∙ zero_number L G i (length_of L G i) r.1 (omega arith))
      (before p) (past j d p.rule-of p.inside)

  shifts-to : {x : ℕ} {s t : Spot} → SpotShifts L G 0 x s t → Shifts L G T x (n s) (n t)
  shifts-to (spot-shifts {i = i} {d = d} p enough) = shifts (before p) (past i d p.rule-of p.inside)

  -- a state whose number is an item's is that item
  item_state : {p i d : ℕ} → T i → Item L G p i d → {s : Spot} → n s ≡ p → s ≡ spot i d []
  item_state {p} {i} {d} l h e =
      same-state L G W apart 0 (state L G W apart 0 i d [] ((is_live_lem L G W apart i h.rule).1 l) h.rule h.dot enough)
      (e ∙ h.state ∙ sym (zero_number L G i d h.rule h.dot))

  place : {x p : ℕ} (b : Before L G T x p) → Place L G x b.number b.place
  place b = record { live = b.taken; rule-of = b.item.rule; inside = b.inside; symbol = b.symbol }

  past_item : {x p : ℕ} (b : Before L G T x p) → Item L G (suc p) b.number (suc b.place)
  past_item b = record { rule = b.item.rule; dot = b.inside; state = omega (arith, b.item.state) }

  front_item : (i : ℕ) → i ≤ length G.rules → Item L G (base L G i) i 0
  front_item i h = record { rule = h; dot = omega arith; state = omega arith }

  end_item : (i : ℕ) → i ≤ length G.rules → Item L G (base L G i + length_of L G i) i (length_of L G i)
  end_item i h = record { rule = h; dot = omega arith; state = refl }

  opens-from : {i : ℕ} {s t : Spot} → Opens L G T i (n s) (n t) → SpotOpens L G 0 i s t
  opens-from {i} {s} {t} (opens-start l e f g) =
      let a = same-state L G W apart 0 (first-state L G W apart 0) (f ∙ sym (number_first L G W apart 0)) in
      let b = same-state L G W apart 0 (state L G W apart 0 0 0 [] ((is_live_lem L G W apart 0 (omega arith)).1 l) (omega arith) (omega arith) enough) (g ∙ sym two) in
      subst (λ i. SpotOpens L G 0 i s t) (sym e) (subst (λ s. SpotOpens L G 0 0 s t) (sym a) (subst (SpotOpens L G 0 0 first) (sym b) (spot-start l)))
  opens-from {i} {s} {t} (opens-rule r l b e) =
      let u = item_state b.taken b.item refl in
      let v = item_state l (front_item i r.1) e in
      subst (λ s. SpotOpens L G 0 i s t) (sym u) (subst (SpotOpens L G 0 i (spot b.number b.place [])) (sym v) (spot-opens r l (place b) enough))

  closes-from : {i : ℕ} {s t : Spot} → Closes L G T i (n s) (n t) → SpotCloses L G 0 i s t
  unfolding rule
  closes-from {i} {s} {t} (closes-start l e f g) =
      let a = same-state L G W apart 0 (state L G W apart 0 0 1 [] ((is_live_lem L G W apart 0 (omega arith)).1 l) (omega arith) (omega arith) enough) (f ∙ sym three) in
      let b = same-state L G W apart 0 (last-state L G W apart 0) (g ∙ sym (number_last L G W apart 0)) in
      subst (λ i. SpotCloses L G 0 i s t) (sym e) (subst (λ s. SpotCloses L G 0 0 s t) (sym a) (subst (SpotCloses L G 0 0 (spot 0 1 [])) (sym b) (spot-ends l refl)))
  closes-from {i} {s} {t} (closes-rule r l e b f) =
      let u = item_state l (end_item i r.1) e in
      let v = item_state b.taken (past_item b) f in
      subst (λ s. SpotCloses L G 0 i s t) (sym u)
      (subst (SpotCloses L G 0 i (spot i (length_of L G i) [])) (sym v) (spot-closes r l (place b) enough refl refl))

  shifts-from : {x : ℕ} {s t : Spot} → Shifts L G T x (n s) (n t) → SpotShifts L G 0 x s t
  shifts-from {x} {s} {t} (shifts b e) =
      let u = item_state b.taken b.item refl in
      let v = item_state b.taken (past_item b) e in
      subst (λ s. SpotShifts L G 0 x s t) (sym u) (subst (SpotShifts L G 0 x (spot b.number b.place [])) (sym v) (spot-shifts (place b) enough))

  -- at m = 0 the moves are those of the position automaton
  pub zero-opens : (i : ℕ) (s t : Spot) → SpotOpens L G 0 i s t ↔ Opens L G (Live L G) i (number_of L G 0 s) (number_of L G 0 t)
  zero-opens i s t = (opens-to, opens-from)

  pub zero-closes : (i : ℕ) (s t : Spot) → SpotCloses L G 0 i s t ↔ Closes L G (Live L G) i (number_of L G 0 s) (number_of L G 0 t)
  zero-closes i s t = (closes-to, closes-from)

  pub zero-shifts : (x : ℕ) (s t : Spot) → SpotShifts L G 0 x s t ↔ Shifts L G (Live L G) x (number_of L G 0 s) (number_of L G 0 t)
  zero-shifts x s t = (shifts-to, shifts-from)

  -- so the lists of the position automaton are its lists
  pub zero-listed : Lists (callers L G 0) (moves_of L G)
  zero-listed =
      let N = position-listed L G W apart in
      record {
        states = zero-states L G;
        terminal = λ x. (λ t. t, λ t. t);
        first = number_first L G W apart 0;
        last = number_last L G W apart 0;
        every = every_number L G W apart 0;
        one = one_number L G W apart 0;
        opens = λ i s t. let o = N.opens i (n s) (n t) in (λ h. o.0 (opens-to h), λ h. opens-from (o.1 h));
        closes = λ i s t. let o = N.closes i (n s) (n t) in (λ h. o.0 (closes-to h), λ h. closes-from (o.1 h));
        shifts = λ x s t. let o = N.shifts x (n s) (n t) in (λ h. o.0 (shifts-to h), λ h. shifts-from (o.1 h));
      }

  -- for each m the lists are the moves, and regular
  pub with_listed : (m : ℕ) → Lists (callers L G m) (moves_with L G m)
  with_listed zero = zero-listed
  with_listed (suc m) = callers-listed L G W apart (suc m)

  pub with_regular : is_live L G 0 ≡ true → (m : ℕ) → Regular (moves_with L G m)
  with_regular s zero = position-regular L G W apart
  with_regular s (suc m) = callers-regular L G W apart (suc m) s

  -- Q at m is the number of the states
  pub with_states : (m : ℕ) → (moves_with L G m).states ≡ length (spots L G m)
  with_states zero = sym (zero-states L G)
  with_states (suc m) = refl
