-- What is known of the rows of a checked grammar. Assumes nothing.
use Rattle.std.specs.Prelude.{ℕ, ◌≡◌, List, get_or}
use Rattle.grammar.specs.Limits.{limits}
use Rattle.grammar.specs.Grammar.{Grammar, IsRule, WellFormed}
use Rattle.grammar.specs.Record.{record_of}
use Rattle.grammar.specs.declared.CheckedGrammar.{CheckedGrammar}
use Rattle.tree_laws.specs.Chart.{Places}
use Rattle.chart.specs.Rows.{Wired}
use Rattle.chart.specs.Filling.{Sheet}
use Rattle.chart_start.specs.Sown.{Columned}

-- the rows show the grammar's places, its rules and their numbers
pub record Showing (G : Grammar) (g : CheckedGrammar) (ahead number lead next head home : List ℕ) : Type 0 where
  pub places : Places limits G
  pub sheet : Sheet G places g.states ahead lead home
  pub wired : Wired g.states ahead lead next head home
  pub numbers : (r : ℕ) → IsRule G r → get_or number (places.first r) 0 ≡ r
  pub columned : Columned G g.count g.lefts g.lengths

abbrev pub Prepares : CheckedGrammar → (ahead number lead next head home : List ℕ) → Type 0
Prepares g ahead number lead next head home = (G : Grammar) → WellFormed limits G → g ≡ record_of G → Showing G g ahead number lead next head home
