-- Counts up to 2 in a work row: its cells, and what the code makes of them. Assumes nothing.
use Rattle.std.specs.Prelude.{ℕ, zero, suc, ◌+◌, ◌*◌, ◌≤◌, ◌<◌, List, [], ◌∷◌, length, get_or}
use Rattle.grammar.specs.Limits.{limits}
use Rattle.trees.specs.Trees.{places}

-- the sum of the products of two rows
unfoldable pub dot : List ℕ → List ℕ → ℕ
dot [] ys = 0
dot (x ∷ xs) [] = 0
dot (x ∷ xs) (y ∷ ys) = x * y + dot xs ys

-- m × m cells for each state: those of an item lie along i, those of a nonterminal, at its home, along j
abbrev pub item_cell : ℕ → ℕ → ℕ → ℕ → ℕ
item_cell m p i j = (p * m + j) * m + i

abbrev pub whole_cell : ℕ → ℕ → ℕ → ℕ → ℕ
whole_cell m h i j = (h * m + i) * m + j

-- the first n splits of the nonterminal at home h and what comes from state p on, between i and j
unfoldable pub splits_at : List ℕ → ℕ → ℕ → ℕ → ℕ → ℕ → ℕ → ℕ
splits_at row m h p i j zero = 0
splits_at row m h p i j (suc n) = splits_at row m h p i j n + get_or row (whole_cell m h i (i + n)) 0 * get_or row (item_cell m p (i + n) j) 0

-- a span of the row, at a home and a state whose cells the work row has
pub record SpanOf (row : List ℕ) (m h p i j : ℕ) : Type 0 where
  pub rises : i ≤ j
  pub inside : j < m
  pub small : m ≤ places
  pub home : h < limits.max_states
  pub state : p < limits.max_states
  pub home_cells : whole_cell m h i m ≤ length row
  pub state-cells : item_cell m p m j ≤ length row
