-- What is known of the work row while a chart is filled. Assumes nothing.
use Rattle.std.specs.Prelude.{ℕ, suc, ◌+◌, ◌≤◌, ◌<◌, ◌≡◌, List, [], ◌∷◌, eqb, length, get_or}
use Rattle.grammar.specs.Basics.{choose}
use Rattle.grammar.specs.Limits.{limits}
use Rattle.grammar.specs.Grammar.{Grammar, IsRule, rule, start, WellFormed, Terminal}
use Rattle.tree_laws.specs.Chart.{Places, Chart, SoundTo, Sums, Settled}
use Rattle.tree_laws.specs.Filling.{Past, Column, Looking}
use Rattle.counts.specs.Counts.{item_cell, whole_cell}
use Rattle.counts.specs.View.{nonzeros, view_of}
use Rattle.chart.specs.Rows.{home_of, made_at, Span}
use Rattle.chart.specs.declared.rows.GrammarRows.{GrammarRows}

-- the first code, or 0
unfoldable pub code_of : List ℕ → ℕ
code_of [] = 0
code_of (x ∷ α) = x

-- the rows show the places of a grammar with Q states
pub record Sheet (G : Grammar) (P : Places limits G) (Q : ℕ) (ahead lead home : List ℕ) : Type 0 where
  pub well_formed : WellFormed limits G
  pub code : (p : ℕ) → p < Q → get_or ahead p 0 ≡ code_of (P.rest p)
  pub range : (p x : ℕ) (α : List ℕ) → P.rest p ≡ x ∷ α → (2 ≤ p) × (suc p < Q)
  pub symbol : (p x : ℕ) (α : List ℕ) → P.rest p ≡ x ∷ α → (1 ≤ x) × (x < start limits → Terminal G.terminals x)
  pub once : (r s : ℕ) → P.first r ≡ P.first s → r ≡ s
  pub before : (r p : ℕ) → IsRule G r → P.first r ≡ suc p → P.rest p ≡ []
  -- a state begins the rule whose left side its lead is
  pub begins : (r : ℕ) → IsRule G r → (P.first r < Q) × (get_or lead (P.first r) 0 ≡ (rule limits G r).left)
  pub leads : (p : ℕ) → p < Q → 1 ≤ get_or lead p 0 → (r : ℕ) × (IsRule G r × (P.first r ≡ p) × ((rule limits G r).left ≡ get_or lead p 0))
  -- nonterminals with rules have homes of their own, at ends past state 3; other codes have none
  pub homed : (r : ℕ) → IsRule G r → 4 ≤ home_of home (rule limits G r).left
  pub home_four : (b : ℕ) → 1 ≤ home_of home b → 4 ≤ home_of home b
  pub home_end : (b : ℕ) → P.rest (home_of home b) ≡ []
  pub home_once : (a b : ℕ) → 1 ≤ home_of home b → home_of home a ≡ home_of home b → a ≡ b
  pub homeless : (b : ℕ) → ((r : ℕ) → IsRule G r → (rule limits G r).left ≡ b → ⊥) → home_of home b ≡ 0
  -- state 2 is before S, state 3 past it
  pub root : P.rest 2 ≡ start limits ∷ []
  pub ends : P.rest 3 ≡ []

module _ (G : Grammar) (P : Places limits G) (Q : ℕ) (home w : List ℕ) where
  -- the chart that a work row holds
  abbrev pub chart_of : List ℕ → Chart
  chart_of row = view_of Q (length w + 1) (λ p. eqb (code_of (P.rest p)) 0) (home_of home) row

  -- its counts are at most 2 and none is too large, the sums are the rules', the plane of ends has 1 on its diagonal, that of state 0 only 0
  pub record Counted (row : List ℕ) : Type 0 where
    pub small : (k : ℕ) → get_or row k 0 ≤ 2
    pub ones : (i j : ℕ) → i < length w + 1 → j < length w + 1 → get_or row (item_cell (length w + 1) 3 i j) 0 ≡ choose (eqb i j) 1 0
    pub none : (i j : ℕ) → i < length w + 1 → j < length w + 1 → get_or row (whole_cell (length w + 1) 0 i j) 0 ≡ 0
    pub depth : ℕ
    pub deep : depth ≤ nonzeros row
    pub sound : SoundTo limits G w P depth (chart_of row)
    pub sums : Sums limits G w P (chart_of row)

  -- the span from i to j is at work
  pub record Working (row active flags : List ℕ) (q i j : ℕ) : Type 0 where
    pub counted : Counted row
    pub looking : Looking limits G w P Q (chart_of row) (λ p. get_or active p 0) (λ p. get_or flags p 0) q i j

  -- the spans that end before j are done, and those that end there and begin at i or later
  pub record Filled (row active : List ℕ) (i j : ℕ) : Type 0 where
    pub counted : Counted row
    pub past : Past limits G w P Q (chart_of row) i j
    pub column : Column limits G w P Q (chart_of row) (λ p. get_or active p 0) j

  -- nothing is counted yet but ends and empty right sides
  pub record Begun (row : List ℕ) : Type 0 where
    pub counted : Counted row
    pub empty : (p x k l : ℕ) (α : List ℕ) → P.rest p ≡ x ∷ α → (chart_of row).item p k l ≡ 0

  -- all counts are settled
  pub record Complete (row : List ℕ) : Type 0 where
    pub counted : Counted row
    pub settled : (p x k l : ℕ) (α : List ℕ) → P.rest p ≡ x ∷ α → k ≤ l → l ≤ length w → Settled limits G w (chart_of row) x p k l

-- the places before, between and after the terminals
abbrev pub width : GrammarRows → ℕ
width R = length R.sentence.now + 1

-- a span of a work row that has cells for all states and places
abbrev pub SpanIn : GrammarRows → (row : List ℕ) (i j : ℕ) → Type 0
SpanIn R row i j = Span row R.states (width R) i j

-- what the work row makes of the count of the state before q, from i to j
abbrev pub made_in : GrammarRows → (row : List ℕ) (q i j : ℕ) → ℕ
made_in R row q i j = made_at row R.ahead.now R.home.now R.sentence.now q i j

-- the rows show the places of a grammar
abbrev pub Shows : (G : Grammar) → Places limits G → GrammarRows → Type 0
Shows G P R = Sheet G P R.states R.ahead.now R.lead.now R.home.now

-- whatever grammar the rows show: a look keeps what is known of the span at work
abbrev pub Looks : (R : GrammarRows) (row row' active active' flags flags' : List ℕ) (q r i j : ℕ) → Type 0
Looks R row row' active active' flags flags' q r i j =
    (G : Grammar) (P : Places limits G) → Shows G P R → Working G P R.states R.home.now R.sentence.now row active flags (suc q) i j
    → Working G P R.states R.home.now R.sentence.now row' active' flags' r i j

-- from one span that is done to another
abbrev pub Fills : (R : GrammarRows) (row row' active active' : List ℕ) (k l i j : ℕ) → Type 0
Fills R row row' active active' k l i j =
    (G : Grammar) (P : Places limits G) → Shows G P R → Filled G P R.states R.home.now R.sentence.now row active k l
    → Filled G P R.states R.home.now R.sentence.now row' active' i j

-- all spans that end at j
abbrev pub FillsColumn : (R : GrammarRows) (row row' marks : List ℕ) (j : ℕ) → Type 0
FillsColumn R row row' marks j =
    (G : Grammar) (P : Places limits G) → Shows G P R → Filled G P R.states R.home.now R.sentence.now row marks (suc j) j
    → (active : List ℕ) × Filled G P R.states R.home.now R.sentence.now row' active 0 j

-- all spans
abbrev pub FillsAll : (R : GrammarRows) (row row' : List ℕ) → Type 0
FillsAll R row row' =
    (G : Grammar) (P : Places limits G) → Shows G P R → Begun G P R.states R.home.now R.sentence.now row
    → Complete G P R.states R.home.now R.sentence.now row'
