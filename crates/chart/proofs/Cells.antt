-- Entries of the work row are in range. Assumes nothing.
use Prim.Native.Nat.{ℕ, suc, ◌+◌, ◌*◌, ◌≤◌, ◌<◌}
use mathlib.Core.List.{List}
use native.Mathlib.Omega.{arith}
use native.Mathlib.Nat.{mul-le-mul, le_refl, suc-mul}
use lib.ListN.{length}
use Rattle.grammar.specs.Limits.{limits}
use Rattle.trees.specs.Trees.{places}
use Rattle.counts.specs.Counts.{item_cell, whole_cell}
use Rattle.chart.specs.Rows.{Span}

-- a state's cells along i from a place j on end within the row
pub run_fits : (m Q p j n : ℕ) → p < Q → j < m → Q * m * m ≤ n → (p * m + j) * m + m ≤ n
run_fits m Q p j n h g l =
    let a : suc p * m ≤ Q * m = mul-le-mul h (le_refl m) in
    let b : p * m + j < Q * m = omega (arith, suc-mul p m) in
    let c : suc (p * m + j) * m ≤ Q * m * m = mul-le-mul b (le_refl m) in
    omega (arith, suc-mul (p * m + j) m)

pub cell_fits : (m Q p i j n : ℕ) → p < Q → i < m → j < m → Q * m * m ≤ n → item_cell m p i j < n
cell_fits m Q p i j n h f g l = omega (arith, run_fits m Q p j n h g l)

-- and within the largest work row, which a machine number holds
pub few_runs : (p m j : ℕ) → p < limits.max_states → m ≤ places → j < m → (p * m + j) * m + m ≤ places * places * limits.max_states
few_runs p m j h l g =
    let a : limits.max_states * m ≤ limits.max_states * places = mul-le-mul (le_refl limits.max_states) l in
    let b : limits.max_states * m * m ≤ limits.max_states * places * places = mul-le-mul a l in
    omega (arith, run_fits m limits.max_states p j (limits.max_states * m * m) h g (le_refl (limits.max_states * m * m)))

-- of a span: a state's entry, and a nonterminal's at its home
module _ {row : List ℕ} {Q m i j : ℕ} (s : Span row Q m i j) where
  pub item_fits : (p : ℕ) → p < Q → item_cell m p i j < length row
  item_fits p h = cell_fits m Q p i j (length row) h (omega (arith, s.rises, s.inside)) s.inside s.cells

  pub whole_fits : (p : ℕ) → p < Q → whole_cell m p i j < length row
  whole_fits p h = cell_fits m Q p j i (length row) h s.inside (omega (arith, s.rises, s.inside)) s.cells

  pub item_few : (p : ℕ) → p < Q → Q ≤ limits.max_states → item_cell m p i j < places * places * limits.max_states
  item_few p h f = omega (arith, few_runs p m j (omega arith) s.small s.inside, s.rises, s.inside)

  pub whole_few : (p : ℕ) → p < Q → Q ≤ limits.max_states → whole_cell m p i j < places * places * limits.max_states
  whole_few p h f = omega (arith, few_runs p m i (omega arith) s.small (omega (arith, s.rises, s.inside)), s.inside)
