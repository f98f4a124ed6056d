-- The work row before it is filled: ends derive the empty row, and so do nonterminals with an empty right side. Assumes nothing.
use Rattle.std.specs.Prelude.{ℕ, suc, ◌+◌, ◌≤◌, ◌<◌, ◌≡◌, List, ◌∷◌, eqb, length, get_or}
use Rattle.grammar.specs.Basics.{choose}
use Rattle.grammar.specs.Limits.{limits}
use Rattle.grammar.specs.Grammar.{Grammar, rule}
use Rattle.grammar.specs.declared.CheckedGrammar.{CheckedGrammar}
use Rattle.tree_laws.specs.Chart.{cap, Places, Chart, kin}
use Rattle.counts.specs.Counts.{item_cell, whole_cell}
use Rattle.chart.specs.Rows.{home_of}
use Rattle.chart.specs.Filling.{code_of, Begun, Shows}
use Rattle.chart.specs.declared.rows.GrammarRows.{GrammarRows}

-- the diagonal of a plane is raised by 1
pub record Diagonal (m h n : ℕ) (row row' : List ℕ) : Type 0 where
  pub on : (i : ℕ) → i < n → get_or row' (item_cell m h i i) 0 ≡ cap (get_or row (item_cell m h i i) 0 + 1)
  pub off : (k : ℕ) → ((i : ℕ) → i < n → k ≡ item_cell m h i i → ⊥) → get_or row' k 0 ≡ get_or row k 0
  pub small : ((k : ℕ) → get_or row k 0 ≤ 2) → (k : ℕ) → get_or row' k 0 ≤ 2
  pub size : length row' ≡ length row

-- the columns have the left sides and the lengths of the rules, counted from 0
pub record Columned (G : Grammar) (count : ℕ) (lefts lengths : List ℕ) : Type 0 where
  pub all : count ≡ length G.rules
  pub left : (r : ℕ) → r < count → get_or lefts r 0 ≡ (rule limits G (suc r)).left
  pub size : (r : ℕ) → r < count → get_or lengths r 0 ≡ length (rule limits G (suc r)).right

-- counts of ends alone
abbrev pub bare : (G : Grammar) → Places limits G → Chart
bare G P = record { item = λ p i j. choose (eqb (code_of (P.rest p)) 0) (choose (eqb i j) 1 0) 0; whole = λ b i j. 0 }

module _ (G : Grammar) (P : Places limits G) (Q : ℕ) (home : List ℕ) (m : ℕ) where
  -- the first r rules are seen to
  pub record Sown (row : List ℕ) (r : ℕ) : Type 0 where
    pub small : (k : ℕ) → get_or row k 0 ≤ 2
    pub ones : (i j : ℕ) → i < m → j < m → get_or row (item_cell m 3 i j) 0 ≡ choose (eqb i j) 1 0
    pub none : (i j : ℕ) → i < m → j < m → get_or row (whole_cell m 0 i j) 0 ≡ 0
    pub empty : (p x i j : ℕ) (α : List ℕ) → P.rest p ≡ x ∷ α → i < m → j < m → get_or row (item_cell m p i j) 0 ≡ 0
    pub wholes : (b i j : ℕ) → i < m → j < m → 1 ≤ home_of home b → get_or row (whole_cell m (home_of home b) i j) 0 ≡ cap (kin limits G P (bare G P) b i j r)

-- whatever grammar the rows and the record's columns show: from a row of 0 to a chart that is begun
abbrev pub Sows : (R : GrammarRows) (g : CheckedGrammar) (row row' : List ℕ) → Type 0
Sows R g row row' =
    (G : Grammar) (P : Places limits G) → Shows G P R → Columned G g.count g.lefts g.lengths → ((k : ℕ) → get_or row k 0 ≡ 0)
    → Begun G P R.states R.home.now R.sentence.now row'
