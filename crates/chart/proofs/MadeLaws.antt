-- What the code makes of a count is what the definition says, and one count is raised to it. Assumes nothing.
use Prim.Native.Nat.{ℕ, suc, ◌+◌, ◌-◌, ◌≤◌, ◌<◌}
use mathlib.Core.Path.{◌≡◌, sym, ap, ap₂, subst, ◌∙◌}
use mathlib.Core.Bool.{Bool, true, false, ◌&&◌}
use mathlib.Core.List.{List}
use native.Mathlib.Omega.{arith}
use lib.Dec.{eqb, ltb, leb}
use lib.ListN.{length, get_or, set}
use borrow.Author.Tests.{le-leb, lt-leb}
use Rattle.grammar.specs.Basics.{choose}
use Rattle.grammar.specs.Limits.{limits}
use Rattle.grammar.specs.Grammar.{start}
use Rattle.tree_laws.specs.Chart.{cap}
use Rattle.tree_laws.proofs.Cap.{cap-most}
use Rattle.counts.specs.Counts.{item_cell, splits_at, SpanOf}
use Rattle.counts.proofs.Laws.{set_same}
use Rattle.chart.specs.Rows.{plane_of, home_of, made_at, Span, Settles}
use Rattle.chart.proofs.Cells.{run_fits}

pub plane_in : (ahead : List ℕ) (q Q : ℕ) → q < Q → 4 ≤ Q → plane_of ahead q < Q
unfolding plane_of
plane_in ahead q Q h g = go (eqb (get_or ahead q 0) 0)
  where
    go : (t : Bool) → choose t 3 q < Q
    go true = omega arith
    go false = h

pub home_in : (home : List ℕ) (b Q : ℕ) → ((c : ℕ) → get_or home c 0 < Q) → 1 ≤ Q → home_of home b < Q
unfolding home_of
home_in home b Q h g = go (leb (start limits) b)
  where
    go : (t : Bool) → choose t (get_or home (b - start limits) 0) 0 < Q
    go true = h (b - start limits)
    go false = omega arith

-- a row as long, another span of it
pub span_at : {row row' : List ℕ} {Q m i j : ℕ} → Span row Q m i j → length row' ≡ length row → {k l : ℕ} → k ≤ l → l < m → Span row' Q m k l
span_at s e h g = record { cells = omega (arith, s.cells); small = s.small; rises = h; inside = g }

pub span_of : (row : List ℕ) (Q m h z i j : ℕ) → Span row Q m i j → Q ≤ limits.max_states → h < Q → z < Q → SpanOf row m h z i j
span_of row Q m h z i j s q a b = record {
  rises = s.rises;
  inside = s.inside;
  small = s.small;
  home = omega arith;
  state = omega arith;
  home_cells = run_fits m Q h i (length row) a (omega (arith, s.rises, s.inside)) s.cells;
  state-cells = run_fits m Q z j (length row) b s.inside s.cells;
}

pub made-leaf : (row ahead home w : List ℕ) (q i j x z : ℕ) → x ≡ get_or ahead (q - 1) 0 → x < start limits → z ≡ plane_of ahead q
    → choose (ltb i j && eqb (get_or w i 0) x) (get_or row (item_cell (length w + 1) z (i + 1) j) 0) 0 ≡ made_at row ahead home w q i j
unfolding made_at
made-leaf row ahead home w q i j x z e h f =
    let g : get_or ahead (q - 1) 0 < start limits = omega arith in
    rw (lt-leb (start limits) (get_or ahead (q - 1) 0) g) (ap₂ (λ x z. choose (ltb i j && eqb (get_or w i 0) x) (get_or row (item_cell (length w + 1) z (i + 1) j) 0) 0) e f)

pub made-node : (row ahead home w : List ℕ) (q i j x h z : ℕ) → x ≡ get_or ahead (q - 1) 0 → start limits ≤ x → h ≡ home_of home x → z ≡ plane_of ahead q
    → splits_at row (length w + 1) h z i j (suc (j - i)) ≡ made_at row ahead home w q i j
unfolding made_at
made-node row ahead home w q i j x h z e g f k =
    let l : start limits ≤ get_or ahead (q - 1) 0 = omega arith in
    rw (le-leb (start limits) (get_or ahead (q - 1) 0) l) (ap₂ (λ h z. splits_at row (length w + 1) h z i j (suc (j - i))) (f ∙ ap (home_of home) e) k)

pub settles_none : (made at k : ℕ) (row : List ℕ) → k ≡ at → cap made ≤ get_or row k 0 → Settles made at 0 row row
settles_none made at k row e h = subst (λ z. Settles made z 0 row row) e (record {
  store = sym (ap (set row k) (let q : get_or row k 0 + 0 ≡ get_or row k 0 = omega arith in q) ∙ set_same row k);
  enough = omega arith;
  exact = λ p. absurd (omega arith);
})

pub settles_full : (made at k : ℕ) (row : List ℕ) → k ≡ at → 2 ≤ get_or row k 0 → Settles made at 0 row row
settles_full made at k row e h = settles_none made at k row e (omega (arith, cap-most made))

pub settles_rise : (made at k v : ℕ) (row : List ℕ) → k ≡ at → v ≡ cap made → get_or row k 0 < v → Settles made at (v - get_or row k 0) row (set row k v)
settles_rise made at k v row e f h = subst (λ z. Settles made z (v - get_or row k 0) row (set row k v)) e (record {
  store = ap (set row k) (let q : v ≡ get_or row k 0 + (v - get_or row k 0) = omega arith in q);
  enough = omega arith;
  exact = λ p. omega arith;
})
