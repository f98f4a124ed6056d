-- read_plan meets its contract: it tells what the trees of the row are, which are never several.
use mathlib.Core.Path.{◌≡◌, subst}
use Rattle.trees.specs.Promise.{FindsTrees}
use Rattle.trees.specs.declared.TreesFound.{TreesFound}
use Rattle.trees.specs.declared.TreesFound.TheVariants.{Nothing, One, Several, Refused}
use Rattle.channels.specs.Commands.{commands, table}
use Rattle.channels.specs.Promise.{ReadsPlan}
use Rattle.channels.proofs.Plans.{plan_of, plan-read}
use Rattle.channels.proofs.read_plan.Goals as goal
use Rattle.channels.proofs.read_plan.Lts as lts
use Rattle.channels.proofs.read_plan.Reads as reads
use Rattle.channels.proofs.read_plan.Tie as tie

abbrev Place-After-plan_trees : Type 0
Place-After-plan_trees = lts.After-plan_trees tie.the-claims reads.Pre reads.Post

-- what is told of the answer
told : (c : Place-After-plan_trees) (v : TreesFound) → c.plan_trees-found.result ≡ v → let a = c.args in
    ReadsPlan a.row.now a.work.now a.list.now (plan_of v) c.plan_trees-found.new.work c.plan_trees-found.new.list
told c v e =
    let a = c.args in
    let work' = c.plan_trees-found.new.work in
    let list' = c.plan_trees-found.new.list in
    plan-read a.row.now a.work.now a.list.now v work' list'
    (subst (λ (v : TreesFound). FindsTrees commands.terminals commands.nonterminals table a.row.now a.work.now a.list.now v work' list') e
    c.plan_trees-found.ensures)

pub returns-in-Nothing : goal.returns-in-Nothing
returns-in-Nothing c = told c.before.before.before.before.before.before Nothing c.in-Nothing.is

pub returns-in-One : goal.returns-in-One
returns-in-One c = told c.before.before.before.before.before.before (One c.in-One.k) c.in-One.is

pub returns-in-Several : goal.returns-in-Several
returns-in-Several c = told c.before.before.before.before.before.before Several c.in-Several.is

pub returns-in-Refused : goal.returns-in-Refused
returns-in-Refused c = told c.before.before.before.before.before.before (Refused c.in-Refused.cause c.in-Refused.at) c.in-Refused.is
