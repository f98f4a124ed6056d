-- The theorems of the command set hold. Assumes nothing.
use mathlib.Core.Path.{refl}
use Rattle.channels.specs.Commands.{certificate}
use Rattle.channels.specs.Theorems.{CommandTheorems, PlanPage}
use Rattle.channels.proofs.Closed.{count, stored, acceptable, accepted, one-tree}
use Rattle.channels.proofs.Smallest.{searched, told-before}
use Rattle.channels.proofs.Plans.{plan_theorems}

command_theorems : CommandTheorems
unfolding certificate
command_theorems = record {
  stores = stored;
  states = count;
  bytes = refl;
  acceptable = acceptable;
  accepted = accepted;
  searched = searched;
  room = told-before;
  one-tree = one-tree;
}

pub plan_page : PlanPage
plan_page = record { commands = command_theorems; plans = plan_theorems }
