-- The walk through the one tree of a chart. What waits stands in the upper bits of the work row's entries, the counts in the two
-- lowest; a place of the walk is a state, and the part of the row that is still to be derived from there. Assumes nothing.
use Rattle.std.specs.Prelude.{ℕ, zero, suc, ◌+◌, ◌/◌, ◌%◌, ◌≤◌, ◌<◌, ◌≡◌, ◌⊎◌, List, [], ◌∷◌, ◌++◌, Option, None, Some, length, get_or}
use Rattle.grammar.specs.Basics.{over}
use Rattle.grammar.specs.Limits.{limits}
use Rattle.grammar.specs.Grammar.{Grammar}
use Rattle.tree_laws.specs.Chart.{Places, Chart}
use Rattle.tree_laws.specs.Walk.{Frame, Walk}
use Rattle.chart.specs.Filling.{chart_of}
use Rattle.tree_walk.specs.Charted.{Rows, width, Charted}
use Rattle.tree_walk.specs.declared.Walker.{Walker}

-- a place of the walk as one number, and back
abbrev pub frame : ℕ → ℕ → ℕ → Frame
frame p i j = record { place = p; from = i; to = j }

abbrev pub decode : ℕ → ℕ → Frame
decode m f = record { place = f / m / m; from = f % m; to = f / m % m }

-- the places that wait in the first d entries, the last one first
unfoldable pub stack_of : ℕ → List ℕ → ℕ → List Frame
stack_of m row zero = []
stack_of m row (suc d) = decode m (get_or row d 0 / 4) ∷ stack_of m row d

-- what a walk goes through: the grammar, the counts of its chart, the room for what waits, and all rules of the tree
pub record Course : Type 0 where
  pub grammar : Grammar
  pub places : Places limits grammar
  pub counts : List ℕ
  pub room : ℕ
  pub all : List ℕ

abbrev pub chart : Rows → Course → Chart
chart R c = chart_of c.grammar c.places R.states R.home R.sentence c.counts

-- the counts are the lower bits
abbrev pub Low : List ℕ → List ℕ → Type 0
Low counts row = (k : ℕ) → get_or row k 0 % 4 ≡ get_or counts k 0

-- the walk is at a place, with so many waiting
pub record WalkAt (R : Rows) (c : Course) (out row : List ℕ) (p i j depth : ℕ) : Type 0 where
  pub charted : Charted c.grammar c.places R c.counts
  pub low : Low c.counts row
  pub rooms : c.room ≤ length row
  pub here : p < R.states
  pub waiting : (s : ℕ) → s < depth → get_or row s 0 / 4 / width R / width R < R.states
  pub walk : Walk limits c.grammar R.sentence c.places (chart R c) c.room c.all out (frame p i j) (stack_of (width R) row depth)

-- it begins at state 2 with nothing written
abbrev pub Begun : Rows → Course → List ℕ → Type 0
Begun R c row = WalkAt R c [] row 2 0 (length R.sentence) 0

-- the walk is where a walker stands
abbrev pub At : Rows → Course → (out row : List ℕ) → Walker → Type 0
At R c out row w = WalkAt R c out row w.p w.i w.j w.depth

-- the same, whatever it goes through
pub record Walks (R : Rows) (row : List ℕ) (w : Walker) : Type 0 where
  pub course : Course
  pub out : List ℕ
  pub at : At R course out row w

-- into a rule
abbrev pub Opens : Rows → (row row' : List ℕ) → (w v : Walker) → (rule : ℕ) → Type 0
Opens R row row' w v rule = (c : Course) (out : List ℕ) → At R c out row w → At R c (out ++ (rule ∷ [])) row' v

-- one rule more is written, or all are
abbrev pub Found : Rows → Course → (out row : List ℕ) → Walker → Option ℕ → Type 0
Found R c out row v None = (out ≡ c.all) × Low c.counts row
Found R c out row v (Some rule) = At R c (out ++ (rule ∷ [])) row v

-- on to the next rule, or to the end
abbrev pub Finds : Rows → (row row' : List ℕ) → (w v : Walker) → Option ℕ → Type 0
Finds R row row' w v r = (c : Course) (out : List ℕ) → At R c out row w → Found R c out row' v r

-- the walk begins, whatever it goes through; and a list has room for all rules
pub record Starts (R : Rows) (row : List ℕ) : Type 0 where
  pub course : Course
  pub begun : Begun R course row

pub record Fits (R : Rows) (row list : List ℕ) : Type 0 where
  pub course : Course
  pub begun : Begun R course row
  pub fits : length course.all ≤ length list

-- the number of all rules, or one more than the limit if that is less
abbrev pub Total : List ℕ → ℕ → ℕ → Type 0
Total all limit r = ((r ≡ length all) × (r ≤ limit)) ⊎ ((r ≡ limit + 1) × (limit < length all))

-- the rules are counted, and the counts stay
abbrev pub Counts : Rows → List ℕ → List ℕ → (limit r : ℕ) → Type 0
Counts R row row' limit r = (c : Course) → Begun R c row → Total c.all limit r × Low c.counts row'

-- all rules stand in front of the list
abbrev pub Lists : Rows → (row list list' : List ℕ) → Type 0
Lists R row list list' = (c : Course) → Begun R c row → length c.all ≤ length list → list' ≡ over c.all list
