-- What openings and shifts enter: what is reached in layer 0 is entered or state 0, and what is reached in layer 1 has left state 0 on
-- either side, if nothing leads to state 0 and what is entered stands before a symbol or closes. Assumes nothing.
use Prim.Native.Nat.{ℕ, zero, suc, ◌≤◌, ◌<◌}
use mathlib.Core.Path.{◌≡◌, refl, sym, ap, subst}
use mathlib.Core.Bool.{Bool, true, false}
use mathlib.Core.Logic.{◌⊎◌, inl, inr}
use native.Mathlib.Omega.{arith}
use lib.Dec.{leb}
use borrow.Author.Tests.{leb-true, le-leb}
use Rattle.grammar.specs.Basics.{Mem}
use Rattle.automaton.specs.Moves.{Moves, listed, Regular}
use Rattle.triples.specs.Successor.{BeforeTerminal, StepTo, open_left, open_right, shift_both, part-both, part_left, part_right, close-left, close-right, read-both, Reached, origin, next}
use Rattle.triples.specs.declared.Move.{Move}
use Rattle.figures.proofs.Lengths.{one, some_in, none_in, opens, closes, shifting, reading, reading-shifts}

module _ (M : Moves) where
  -- an opening leads to the state, or shifts do after an opening
  pub data Entered : ℕ → Type 0 where
    by-opening : {i p q : ℕ} → Mem {A = ℕ × ℕ} (i, q) (M.openings p) → Entered q
    by_shift : {p : ℕ} → Entered p → 1 ≤ M.ahead p → Entered (M.after p)

  -- what the bound needs of an automaton, besides regular lists
  pub record Leavable : Type 0 where
    -- nothing is ahead of state 0, and no move leads there
    pub nothing-ahead : M.ahead 0 ≡ 0
    pub opens-past : (i p q : ℕ) → Mem {A = ℕ × ℕ} (i, q) (M.openings p) → 0 < q
    pub closes-past : (i p q : ℕ) → Mem {A = ℕ × ℕ} (i, q) (M.closings p) → 0 < q
    -- a state that is entered stands before a symbol or closes
    pub goes_on : (p : ℕ) → Entered p → (1 ≤ M.ahead p) ⊎ ((i q : ℕ) × Mem {A = ℕ × ℕ} (i, q) (M.closings p))

  -- a state that stands before a symbol, or one that closes
  pub data Kind (p : ℕ) : Type 0 where
    before : closes M p ≡ 0 → shifting M p ≡ 1 → Kind p
    ends : opens M p ≡ 0 → shifting M p ≡ 0 → reading M p ≡ 0 → 1 ≤ closes M p → Kind p

module _ (M : Moves) (R : Regular M) (E : Leavable M) where
  -- what is reached in a layer
  Layered : ℕ → ℕ → Type 0
  Layered zero p = (p ≡ 0) ⊎ Entered M p
  Layered (suc f) p = 0 < p

  abbrev Shifted : ℕ → ℕ → ℕ → Type 0
  Shifted x p q = (M.ahead p ≡ x) × (1 ≤ x) × (q ≡ M.after p)

  shifted : {x p q : ℕ} → Shifted x p q → (p ≡ 0) ⊎ Entered M p → Entered M q
  shifted s (inl z) = absurd (omega (arith, E.nothing-ahead, ap M.ahead z, s.0, s.1))
  shifted s (inr e) = subst (Entered M) (sym s.2) (by_shift e (omega (arith, s.0, s.1)))

  shifts_up : {x p q : ℕ} → Shifted x p q → 0 < q
  shifts_up {x} {p} s = omega (arith, s.2, R.later p (omega (arith, s.0, s.1)))

  ahead_up : (p : ℕ) → 1 ≤ M.ahead p → 0 < p
  ahead_up zero h = absurd (omega (arith, E.nothing-ahead))
  ahead_up (suc p) h = omega arith

  reads_up : {p : ℕ} → BeforeTerminal (listed M) p → 0 < p
  reads_up {p} (a, t, (r, s)) = ahead_up p (omega (arith, s.0, s.1))

  stepped : {f g p q p' q' : ℕ} {l r : Move} → StepTo (listed M) f p q g p' q' l r → Layered f p × Layered f q → Layered g p' × Layered g q'
  unfolding Layered
  stepped (open_left {f = zero} o) (a, b) = (inr (by-opening o), b)
  stepped (open_left {f = suc f} o) (a, b) = (E.opens-past _ _ _ o, b)
  stepped (open_right {f = zero} o) (a, b) = (a, inr (by-opening o))
  stepped (open_right {f = suc f} o) (a, b) = (a, E.opens-past _ _ _ o)
  stepped (shift_both u v) (a, b) = (inr (shifted u a), inr (shifted v b))
  stepped (part-both n c d) (a, b) = (E.closes-past _ _ _ c, E.closes-past _ _ _ d)
  stepped (part_left c t) (a, b) = (E.closes-past _ _ _ c, reads_up t)
  stepped (part_right c t) (a, b) = (reads_up t, E.closes-past _ _ _ c)
  stepped (close-left c) (a, b) = (E.closes-past _ _ _ c, b)
  stepped (close-right c) (a, b) = (a, E.closes-past _ _ _ c)
  stepped (read-both t u v) (a, b) = (shifts_up u, shifts_up v)

  layered : {f p q : ℕ} → Reached (listed M) f p q → Layered f p × Layered f q
  unfolding Layered
  layered origin = (inl refl, inl refl)
  layered (next r s) = stepped s.2 (layered r)

  -- in layer 1 neither side is in state 0
  pub past-start : {p q : ℕ} → Reached (listed M) 1 p q → (0 < p) × (0 < q)
  unfolding Layered
  past-start r = layered r

  -- in layer 0 either side is in state 0 or entered
  pub entered : {p q : ℕ} → Reached (listed M) 0 p q → ((p ≡ 0) ⊎ Entered M p) × ((q ≡ 0) ⊎ Entered M q)
  unfolding Layered
  entered r = layered r

  before-kind : (p : ℕ) → 1 ≤ M.ahead p → Kind M p
  before-kind p h =
      before (none_in (M.closings p) (λ m i. R.ahead_no_close m.0 p m.1 h i)) (ap one (le-leb 1 (M.ahead p) h))

  closes-kind : (i p q : ℕ) → Mem {A = ℕ × ℕ} (i, q) (M.closings p) → Kind M p
  closes-kind i p q c =
      let none_ahead = go (leb 1 (M.ahead p)) refl in
      ends (none_in (M.openings p) (λ m o. R.opens_no_close m.0 i p m.1 q o c)) none_ahead (omega (arith, none_ahead, reading-shifts M p)) (some_in c)
    where
      go : (b : Bool) → leb 1 (M.ahead p) ≡ b → one b ≡ 0
      go true e = absurd (R.ahead_no_close i p q (leb-true 1 (M.ahead p) e) c)
      go false e = refl

  -- what is entered stands before a symbol or closes
  pub entered-kind : {p : ℕ} → Entered M p → Kind M p
  entered-kind {p} e = elim (E.goes_on p e) [
    | inl h ↦ before-kind p h
    | inr c ↦ closes-kind c.0 p c.1 c.2
  ]
