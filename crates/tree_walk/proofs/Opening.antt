-- The walk at a nonterminal: whatever split and rule the counts show is the tree's, and there is room for what waits. Assumes nothing.
use Prim.Native.Nat.{ℕ, suc, ◌+◌, ◌-◌, ◌*◌, ◌/◌, ◌%◌, ◌≤◌, ◌<◌}
use mathlib.Core.Path.{◌≡◌, sym, ap, ap₂, subst, subst₂, ◌∙◌}
use mathlib.Core.List.{List, [], ◌∷◌, ◌++◌}
use native.Mathlib.Omega.{arith}
use native.Mathlib.Decide.{ℕ_discrete}
use lib.Dec.{eqb}
use lib.ListN.{length, get_or, set, length-set}
use lib.Seq.{get_or-set_same, get_or-set_other}
use Rattle.grammar.specs.Limits.{limits}
use Rattle.grammar.specs.Grammar.{Grammar, IsRule, rule, start}
use Rattle.tree_laws.specs.Chart.{Places, Chart, kin}
use Rattle.tree_laws.specs.Walk.{Walk}
use Rattle.tree_laws.proofs.Cap.{cap_le}
use Rattle.tree_laws.proofs.Chart.{some-whole}
use Rattle.tree_laws.proofs.Walk.{walk-node, walk_finds}
use Rattle.counts.specs.Counts.{item_cell, whole_cell}
use Rattle.counts.proofs.View.{read_whole}
use Rattle.chart.specs.Rows.{plane_of, home_of}
use Rattle.chart.specs.Filling.{code_of, Sheet}
use Rattle.chart.proofs.Reading.{read_plane}
use Rattle.chart.proofs.MadeLaws.{home_in}
use Rattle.tree_walk.specs.Charted.{Rows, width, Both, Begins}
use Rattle.tree_walk.specs.Walking.{frame, decode, stack_of, Course, chart, WalkAt, Walks}
use Rattle.tree_walk.specs.declared.Walker.{Walker}
use Rattle.tree_walk.proofs.Stack.{stack_length, stack_other, stack_last, decode-code, upper, lower}
use Rattle.tree_walk.proofs.Stable.{kinds, stable, kin-some}
use Rattle.tree_walk.proofs.Turns.{inside, ahead_of}

-- what the code finds for the nonterminal after state p: home and plane, a split if one shows, and a state if one shows for that split
pub record Chosen (R : Rows) (row : List ℕ) (p i j h z k s : ℕ) : Type 0 where
  pub home : h ≡ home_of R.home (get_or R.ahead p 0)
  pub plane : z ≡ plane_of R.ahead (p + 1)
  pub low : i ≤ k
  pub high : k ≤ j
  pub split : (n : ℕ) → i ≤ n → n ≤ j → Both row (width R) h z i n j → Both row (width R) h z i k j
  pub state : s < R.states
  pub first : (t : ℕ) → t < R.states → Begins row R.ahead R.lead (width R) (get_or R.ahead p 0) i k t
      → Begins row R.ahead R.lead (width R) (get_or R.ahead p 0) i k s

module _ (R : Rows) (c : Course) (out row : List ℕ) (p i j depth : ℕ) (W : WalkAt R c out row p i j depth) (o : start limits ≤ get_or R.ahead p 0) where
  abbrev G : Grammar
  G = c.grammar

  abbrev P : Places limits G
  P = c.places

  abbrev w : List ℕ
  w = R.sentence

  abbrev m : ℕ
  m = width R

  abbrev C : Chart
  C = chart R c

  abbrev S : Sheet G P R.states R.ahead R.lead R.home
  S = W.charted.sheet

  -- the nonterminal, and what stands after it
  abbrev b : ℕ
  b = get_or R.ahead p 0

  next : (α : List ℕ) × (P.rest p ≡ b ∷ α)
  next = ahead_of R c out row p i j depth W (λ z. omega arith)

  ij : (i ≤ j) × (j < m)
  ij = inside R c out row p i j depth W

  pub past : suc p < R.states
  past = (S.range p b next.0 next.1).1

  on : suc p ≡ p + 1
  on = omega arith

  -- the counts are read off the lower bits
  whole-at : (k : ℕ) → i ≤ k → k ≤ j → C.whole b i k ≡ get_or row (whole_cell m (home_of R.home b) i k) 0 % 4
  whole-at k x y =
      read_whole R.states m (λ p. eqb (code_of (P.rest p)) 0) (home_of R.home) c.counts b i k
      (home_in R.home b R.states W.charted.ready.homes (omega (arith, W.here))) (omega (arith, ij)) (omega (arith, ij))
      ∙ sym (W.low (whole_cell m (home_of R.home b) i k))

  item_at : (s k l : ℕ) → s < R.states → k < m → l < m → C.item s k l ≡ get_or row (item_cell m (plane_of R.ahead s) k l) 0 % 4
  item_at s k l h x y =
      read_plane G P R.states R.ahead R.lead R.home w S c.counts W.charted.complete.counted W.charted.ready.homes s k l h x y
      ∙ sym (W.low (item_cell m (plane_of R.ahead s) k l))

  rest_at : (k : ℕ) → k ≤ j → C.item (suc p) k j ≡ get_or row (item_cell m (plane_of R.ahead (p + 1)) k j) 0 % 4
  rest_at k y = item_at (suc p) k j past (omega (arith, ij)) ij.1 ∙ ap (λ z. get_or row (item_cell m (plane_of R.ahead z) k j) 0 % 4) on

  -- some split shows
  shows : (k : ℕ) × ((i ≤ k) × (k ≤ j) × Both row m (home_of R.home b) (plane_of R.ahead (p + 1)) i k j)
  shows =
      let T = stable G P R c.counts W.charted in
      let K = kinds G P R c.counts W.charted in
      let f = walk_finds limits G w P C T K W.charted.complete.counted.depth W.charted.complete.counted.sound (frame p i j) W.walk.now b next.0
      W.walk.pending next.1 (λ t. omega (arith, t.1, S.well_formed.terminals)) in
      let k = f.1.0 in
      let x = f.1.1 in (
        k,
        (
          x.1,
          x.2,
          record {
            whole = omega (arith, whole-at k x.1 x.2, some-whole limits G w P C T K b f.0 i k x.0 x.1 (omega (arith, x.2, ij)) x.3);
            rest = omega (arith, x.4, rest_at k x.2);
          },
        ),
      )

  module _ (k : ℕ) (ik : i ≤ k) (kj : k ≤ j) (x : Both row m (home_of R.home b) (plane_of R.ahead (p + 1)) i k j) where
    -- some rule shows
    begins : (s : ℕ) × ((s < R.states) × Begins row R.ahead R.lead m b i k s)
    begins =
        let y = W.charted.complete.counted.sums b i k ik (omega (arith, kj, ij)) in
        let z = kin-some G P C b i k (length G.rules) (omega (arith, y, whole-at k ik kj, x.whole, cap_le (kin limits G P C b i k (length G.rules)))) in
        let q = S.begins z.0 (z.1.0, z.1.1) in (
          P.first z.0,
          (
            q.0,
            record {
              left = q.1 ∙ z.1.2;
              count = omega (arith, z.1.3, item_at (P.first z.0) i k q.0 (omega (arith, ij)) (omega (arith, kj, ij)));
            },
          ),
        )

    module _ (s : ℕ) (sQ : s < R.states) (y : Begins row R.ahead R.lead m b i k s) where
      found : (r : ℕ) × (IsRule G r × (P.first r ≡ s) × ((rule limits G r).left ≡ get_or R.lead s 0))
      found = S.leads s sQ (omega (arith, y.left))

      step : (length (stack_of m row depth) < c.room)
          × Walk limits G w P C c.room c.all (out ++ (found.0 ∷ [])) (frame (P.first found.0) i k) (frame (suc p) k j ∷ stack_of m row depth)
      step =
          walk-node limits G w P C (stable G P R c.counts W.charted) (kinds G P R c.counts W.charted)
          W.charted.complete.counted.depth W.charted.complete.counted.sound c.room c.all out (frame p i j) (stack_of m row depth)
          b next.0 found.0 k W.walk next.1 (found.1.0, found.1.2 ∙ y.left) ik kj (omega (arith, ij))
          (omega (arith, y.count, item_at s i k sQ (omega (arith, ij)) (omega (arith, kj, ij)), ap (λ z. C.item z i k) found.1.1))
          (omega (arith, x.rest, rest_at k kj))

      turn-room : depth < length row
      turn-room = omega (arith, step.0, stack_length m row depth, W.rooms)

      turn_open : (f : ℕ) → f ≡ item_cell m (p + 1) k j
          → WalkAt R c (out ++ (get_or R.number s 0 ∷ [])) (set row depth (get_or row depth 0 % 4 + 4 * f)) s i k (depth + 1)
      turn_open f e = record {
        charted = W.charted;
        low = λ n. elim (ℕ_discrete n depth) [
          | yes g ↦ ap (λ z. get_or new z 0 % 4) g ∙ ap (λ z. z % 4) stored ∙ lower (get_or row depth 0) f ∙ W.low depth ∙ ap (λ z. get_or c.counts z 0) (sym g)
          | no g ↦ ap (λ z. z % 4) (get_or-set_other row depth n v 0 g) ∙ W.low n
        ];
        rooms = omega (arith, W.rooms, length-set row depth v);
        here = sQ;
        waiting = λ n h. elim (ℕ_discrete n depth) [
          | yes g ↦ omega (arith, past, ap (λ z. z.place) top, ap (λ z. get_or new z 0 / 4 / m / m) g)
          | no g ↦ omega (arith, W.waiting n (omega arith), ap (λ z. z / 4 / m / m) (get_or-set_other row depth n v 0 g))
        ];
        walk =
            subst₂ (λ r z. Walk limits G w P C c.room c.all (out ++ (r ∷ [])) (frame z i k) (stack_of m new (depth + 1)))
            (sym (W.charted.numbers found.0 found.1.0) ∙ ap (λ z. get_or R.number z 0) found.1.1) found.1.1
            (subst (Walk limits G w P C c.room c.all (out ++ (found.0 ∷ [])) (frame (P.first found.0) i k)) stack step.1);
      }
        where
          v : ℕ
          v = get_or row depth 0 % 4 + 4 * f

          new : List ℕ
          new = set row depth v

          stored : get_or new depth 0 ≡ v
          stored = get_or-set_same row depth v 0 turn-room

          top : decode m (get_or new depth 0 / 4) ≡ frame (suc p) k j
          top =
              ap (λ z. decode m (z / 4)) stored ∙ ap (decode m) (upper (get_or row depth 0) f ∙ e)
              ∙ decode-code m (p + 1) k j (omega (arith, kj, ij)) ij.1 ∙ ap (λ z. frame z k j) (sym on)

          stack : frame (suc p) k j ∷ stack_of m row depth ≡ stack_of m new (depth + 1)
          stack =
              let n : depth + 1 - 1 ≡ depth = omega arith in
              sym (stack_last m new (depth + 1) (omega arith) ∙ ap (λ z. decode m (get_or new z 0 / 4) ∷ stack_of m new z) n
              ∙ ap₂ (λ x l. x ∷ l) top (stack_other m row depth v depth (omega arith)))

  module _ (h z k s : ℕ) (f : Chosen R row p i j h z k s) where
    split-shows : Both row m (home_of R.home b) (plane_of R.ahead (p + 1)) i k j
    split-shows =
        subst₂ (λ h z. Both row m h z i k j) f.home f.plane
        (f.split shows.0 shows.1.0 shows.1.1 (subst₂ (λ h z. Both row m h z i shows.0 j) (sym f.home) (sym f.plane) shows.1.2))

    rule-shows : Begins row R.ahead R.lead m b i k s
    rule-shows = let n = begins k f.low f.high split-shows in f.first n.0 n.1.0 n.1.1

    pub open_room : depth < length row
    open_room = turn-room k f.low f.high split-shows s f.state rule-shows

    pub opened : (g : ℕ) → g ≡ item_cell m (p + 1) k j
        → WalkAt R c (out ++ (get_or R.number s 0 ∷ [])) (set row depth (get_or row depth 0 % 4 + 4 * g)) s i k (depth + 1)
    opened = turn_open k f.low f.high split-shows s f.state rule-shows

-- the next state, whatever the walk goes through
pub walks_past : {R : Rows} {row : List ℕ} {w : Walker} → Walks R row w → start limits ≤ get_or R.ahead w.p 0 → suc w.p < R.states
walks_past {R} {row} {w} x o = past R x.course x.out row w.p w.i w.j w.depth x.at o
