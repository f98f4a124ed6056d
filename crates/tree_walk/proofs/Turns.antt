-- One turn of the walk, at an end and at a terminal; and what is known where it stands. Assumes nothing.
use Prim.Native.Nat.{ℕ, suc, ◌+◌, ◌-◌, ◌/◌, ◌%◌, ◌≤◌, ◌<◌}
use mathlib.Core.Path.{◌≡◌, sym, ap, subst, subst₂, ◌∙◌}
use mathlib.Core.List.{List, [], ◌∷◌}
use mathlib.Core.Logic.{inl, inr}
use native.Mathlib.Omega.{arith}
use lib.ListN.{length, get_or}
use Rattle.grammar.specs.Limits.{limits}
use Rattle.grammar.specs.Grammar.{Grammar, start}
use Rattle.tree_laws.specs.Chart.{Places}
use Rattle.tree_laws.specs.Walk.{Walk}
use Rattle.tree_laws.proofs.Spans.{spans_rise, spans_within}
use Rattle.tree_laws.proofs.Walk.{walk-leaf, walk-back, walk-done}
use Rattle.chart.specs.Filling.{Sheet}
use Rattle.chart.proofs.Reading.{either, some-code, end-code, no_code}
use Rattle.tree_walk.specs.Charted.{Rows, width, SpanIn, Roomy}
use Rattle.tree_walk.specs.Walking.{frame, decode, stack_of, Course, chart, WalkAt, Walks}
use Rattle.tree_walk.specs.declared.Walker.{Walker}
use Rattle.tree_walk.proofs.Stack.{stack_length, stack_last, stack_none}
use Rattle.tree_walk.proofs.Stable.{kinds, stable}

module _ (R : Rows) (c : Course) (out row : List ℕ) (p i j depth : ℕ) (W : WalkAt R c out row p i j depth) where
  abbrev G : Grammar
  G = c.grammar

  abbrev P : Places limits G
  P = c.places

  abbrev w : List ℕ
  w = R.sentence

  abbrev S : Sheet G P R.states R.ahead R.lead R.home
  S = W.charted.sheet

  pub inside : (i ≤ j) × (j < width R)
  inside =
      let s = W.walk.pending.spans in
      let a = spans_rise limits G w s in
      let b = spans_within limits G w s in
      (a, omega arith)

  pub deep : depth ≤ length row
  deep = omega (arith, W.walk.fits, stack_length (width R) row depth, W.rooms)

  -- the code ahead tells what stands after the dot
  at-end : get_or R.ahead p 0 ≡ 0 → P.rest p ≡ []
  at-end e = no_code G P R.states R.ahead R.lead R.home w S p (sym (S.code p W.here) ∙ e)

  pub ahead_of : (get_or R.ahead p 0 ≡ 0 → ⊥) → (α : List ℕ) × (P.rest p ≡ get_or R.ahead p 0 ∷ α)
  ahead_of n = elim (either G P R.states R.ahead R.lead R.home w S p) [
    | inl e ↦ absurd (n (S.code p W.here ∙ end-code G P R.states R.ahead R.lead R.home w S p e))
    | inr e ↦
        let x = S.code p W.here ∙ some-code G P R.states R.ahead R.lead R.home w S p e.0 e.1.0 e.1.1 in
        (e.1.0, e.1.1 ∙ ap (λ z. z ∷ e.1.0) (sym x))
  ]

  -- at an end: all is written, or back to what waits last
  pub turn-done : get_or R.ahead p 0 ≡ 0 → depth ≡ 0 → out ≡ c.all
  turn-done e d =
      walk-done limits G w P (chart R c) (stable G P R c.counts W.charted) (kinds G P R c.counts W.charted)
      W.charted.complete.counted.depth W.charted.complete.counted.sound c.room c.all out (frame p i j)
      (subst (Walk limits G w P (chart R c) c.room c.all out (frame p i j)) (ap (stack_of (width R) row) d ∙ stack_none (width R) row) W.walk) (at-end e)

  pub turn-back : get_or R.ahead p 0 ≡ 0 → 1 ≤ depth
      → let f = get_or row (depth - 1) 0 / 4 in WalkAt R c out row (f / width R / width R) (f % width R) (f / width R % width R) (depth - 1)
  turn-back e d = record {
    charted = W.charted;
    low = W.low;
    rooms = W.rooms;
    here = W.waiting (depth - 1) (omega arith);
    waiting = λ s h. W.waiting s (omega arith);
    walk =
        walk-back limits G w P (chart R c) (stable G P R c.counts W.charted) (kinds G P R c.counts W.charted)
        W.charted.complete.counted.depth W.charted.complete.counted.sound c.room c.all out (frame p i j)
        (decode (width R) (get_or row (depth - 1) 0 / 4)) (stack_of (width R) row (depth - 1))
        (subst (Walk limits G w P (chart R c) c.room c.all out (frame p i j)) (stack_last (width R) row depth d) W.walk) (at-end e);
  }

  -- at a terminal: on
  pub turn_on : (get_or R.ahead p 0 ≡ 0 → ⊥) → get_or R.ahead p 0 < start limits → WalkAt R c out row (p + 1) (i + 1) j depth
  turn_on n l =
      let e = ahead_of n in
      let a : suc p ≡ p + 1 = omega arith in
      let b : suc i ≡ i + 1 = omega arith in
      record {
        charted = W.charted;
        low = W.low;
        rooms = W.rooms;
        here = omega (arith, S.range p (get_or R.ahead p 0) e.0 e.1);
        waiting = W.waiting;
        walk = subst₂ (λ q k. Walk limits G w P (chart R c) c.room c.all out (frame q k j) (stack_of (width R) row depth)) a b
            (walk-leaf limits G w P (chart R c) (stable G P R c.counts W.charted) (kinds G P R c.counts W.charted)
            W.charted.complete.counted.depth W.charted.complete.counted.sound c.room c.all out (frame p i j) (stack_of (width R) row depth)
            (get_or R.ahead p 0) e.0 W.walk e.1 ((S.symbol p (get_or R.ahead p 0) e.0 e.1).1 l));
      }

-- the walk at a place that is told by other numbers
pub at_same : (R : Rows) (c : Course) (out row : List ℕ) {p q i k j l d e : ℕ} → q ≡ p → k ≡ i → l ≡ j → e ≡ d
    → WalkAt R c out row p i j d → WalkAt R c out row q k l e
at_same R c out row {p} {q} {i} {k} {j} {l} {d} {e} x y z v W =
    subst₂ (λ q k. WalkAt R c out row q k l e) (sym x) (sym y) (subst₂ (λ l e. WalkAt R c out row p i l e) (sym z) (sym v) W)

-- whatever the walk goes through
module _ {R : Rows} {row : List ℕ} {w : Walker} (x : Walks R row w) where
  pub walks_inside : (w.i ≤ w.j) × (w.j < width R)
  walks_inside = inside R x.course x.out row w.p w.i w.j w.depth x.at

  pub walks_deep : w.depth ≤ length row
  walks_deep = deep R x.course x.out row w.p w.i w.j w.depth x.at

-- a span of the work row
pub span_in : {row : List ℕ} {i j : ℕ} (R : Rows) → Roomy R row → i ≤ j → j < width R → SpanIn R row i j
span_in R r h g = record { cells = r.cells; small = omega (arith, r.small); rises = h; inside = g }
