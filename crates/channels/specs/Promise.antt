-- What the entry for the command set promises: the answer of find_trees for its table, of which several is no case; and every lent row
-- afterwards. Source: document 02, [14]. Assumes nothing.
use Rattle.std.specs.Prelude.{ℕ, List}
use Rattle.trees.specs.Trees.{work_size}
use Rattle.trees.specs.Promise.{FindsTrees}
use Rattle.trees.specs.declared.TreesFound.{TreesFound}
use Rattle.trees.specs.declared.TreesFound.TheVariants as found
use Rattle.channels.specs.Commands.{commands, table}
use Rattle.channels.specs.declared.PlanRead.{PlanRead}
use Rattle.channels.specs.declared.PlanRead.TheVariants.{Nothing, Plan, Refused}

-- the answer as find_trees gives it: no plan, the rules of the one plan, or a refusal
abbrev pub as_trees : PlanRead → TreesFound
as_trees Nothing = found.Nothing
as_trees (Plan rules) = found.One rules
as_trees (Refused cause at) = found.Refused cause at

-- given a row of terminals, the work row and the list: the answer, and the work row and the list afterwards
abbrev pub ReadsPlan : List ℕ → List ℕ → List ℕ → PlanRead → List ℕ → List ℕ → Type 0
ReadsPlan w work list r work' list' = FindsTrees commands.terminals commands.nonterminals table w work list (as_trees r) work' list'

-- how long the work row must be: 65 × 65 × 27 entries
abbrev pub plan_room : ℕ
plan_room = work_size commands
