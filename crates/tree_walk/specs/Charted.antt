-- The rows that the walk reads, and what they show: a grammar with a complete chart in the work row. Assumes nothing.
use Rattle.std.specs.Prelude.{ℕ, ◌+◌, ◌*◌, ◌%◌, ◌≤◌, ◌≡◌, List, length, get_or}
use Rattle.grammar.specs.Limits.{limits}
use Rattle.grammar.specs.Grammar.{Grammar, IsRule}
use Rattle.trees.specs.Trees.{max_row}
use Rattle.tree_laws.specs.Chart.{Places}
use Rattle.counts.specs.Counts.{item_cell, whole_cell}
use Rattle.chart.specs.Rows.{plane_of, Ready, Span}
use Rattle.chart.specs.Filling.{Sheet, Complete}
use Rattle.chart.specs.declared.rows.TreeRows.{TreeRows}

-- the rows of a grammar that the walk reads, and the row of terminals
pub record Rows : Type 0 where
  pub states : ℕ
  pub ahead : List ℕ
  pub lead : List ℕ
  pub number : List ℕ
  pub home : List ℕ
  pub sentence : List ℕ

abbrev pub rows : ℕ → List ℕ → List ℕ → List ℕ → List ℕ → List ℕ → Rows
rows Q ahead lead number home w = record { states = Q; ahead = ahead; lead = lead; number = number; home = home; sentence = w }

-- those that the code is lent
abbrev pub rows_of : TreeRows → Rows
rows_of T = rows T.states T.ahead.now T.lead.now T.number.now T.home.now T.sentence.now

-- the places before, between and after the terminals
abbrev pub width : Rows → ℕ
width R = length R.sentence + 1

-- a span of a work row that has cells for all states and places
abbrev pub SpanIn : Rows → (row : List ℕ) (i j : ℕ) → Type 0
SpanIn R row i j = Span row R.states (width R) i j

-- the work row has so many entries squared for each state, and there are no more terminals than may be
pub record Roomy (R : Rows) (row : List ℕ) : Type 0 where
  pub cells : R.states * width R * width R ≤ length row
  pub small : length R.sentence ≤ max_row

-- the counts of a nonterminal from i to k and of what follows from k to j are not 0
pub record Both (row : List ℕ) (m h z i k j : ℕ) : Type 0 where
  pub whole : 1 ≤ get_or row (whole_cell m h i k) 0 % 4
  pub rest : 1 ≤ get_or row (item_cell m z k j) 0 % 4

-- state s begins a rule of b whose count from i to k is not 0
pub record Begins (row ahead lead : List ℕ) (m b i k s : ℕ) : Type 0 where
  pub left : get_or lead s 0 ≡ b
  pub count : 1 ≤ get_or row (item_cell m (plane_of ahead s) i k) 0 % 4

-- the rows show a grammar with a complete chart, and the numbers of its rules
pub record Charted (G : Grammar) (P : Places limits G) (R : Rows) (counts : List ℕ) : Type 0 where
  pub ready : Ready R.states R.ahead R.home
  pub sheet : Sheet G P R.states R.ahead R.lead R.home
  pub numbers : (r : ℕ) → IsRule G r → get_or R.number (P.first r) 0 ≡ r
  pub complete : Complete G P R.states R.home R.sentence counts
