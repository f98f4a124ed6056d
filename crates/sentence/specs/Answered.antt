-- The answer for a row of terminals, as the code gives it. Assumes nothing.
use Rattle.std.specs.Prelude.{ℕ, ◌≤◌, ◌<◌, ◌≡◌, List, Result, Ok, Err, length}
use Rattle.grammar.specs.Basics.{over}
use Rattle.grammar.specs.Limits.{limits}
use Rattle.grammar.specs.Grammar.{Grammar, WellFormed}
use Rattle.grammar.specs.Record.{record_of}
use Rattle.grammar.specs.declared.CheckedGrammar.{CheckedGrammar}
use Rattle.trees.specs.Trees.{nothing, one, several, Agrees}
use Rattle.tree_laws.specs.Chart.{Places}
use Rattle.tree_walk.specs.Charted.{Rows, Charted}
use Rattle.sentence.specs.declared.Outcome.{Outcome}
use Rattle.sentence.specs.declared.Outcome.TheVariants.{Nothing, One, Several}
use Rattle.sentence.specs.declared.ListTooShort.{ListTooShort}

-- none and several leave the list; one has its rules in front of it, and how many they are; or the list is too short and unchanged
abbrev pub Answered : (G : Grammar) (w list list' : List ℕ) → Result Outcome ListTooShort → Type 0
Answered G w list list' (Ok Nothing) = Agrees limits G w nothing × (list' ≡ list)
Answered G w list list' (Ok (One n)) = (rules : List ℕ) × (Agrees limits G w (one rules) × (n ≡ length rules) × (n ≤ length list) × (list' ≡ over rules list))
Answered G w list list' (Ok Several) = Agrees limits G w several × (list' ≡ list)
Answered G w list list' (Err e) = (rules : List ℕ) × (Agrees limits G w (one rules) × (length list < length rules) × (list' ≡ list))

-- some grammar has the work row as its complete chart
pub record HasChart (R : Rows) (row : List ℕ) : Type 0 where
  pub grammar : Grammar
  pub places : Places limits grammar
  pub charted : Charted grammar places R row

-- the answer, whichever has
abbrev pub Answers : Rows → (row list list' : List ℕ) → Result Outcome ListTooShort → Type 0
Answers R row list list' r = (G : Grammar) (P : Places limits G) → Charted G P R row → Answered G R.sentence list list' r

-- the answer for the grammar that a record stands for
abbrev pub Judges : CheckedGrammar → (w list list' : List ℕ) → Result Outcome ListTooShort → Type 0
Judges g w list list' r = (G : Grammar) → WellFormed limits G → g ≡ record_of G → Answered G w list list' r
