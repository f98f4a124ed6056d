-- `joining::joins::join_read` meets its contract: names, rules and last tests, one after the other. Assumes nothing.
use native.Mathlib.Omega.{arith}
use mathlib.Core.Path.{sym}
use lib.Seq.{length-take-le}
use Rattle.joining.proofs.JoinLaws.{robot-names_fit, addon-names_fit, names-few, numbers_fit, named, names-refused, rules_ready, last-refused, last-joined}
use Rattle.joining.proofs.joins.join_read.Goals as goal

pub overflow_add-m : goal.overflow_add-m
overflow_add-m c = let p = names-few c.requires in omega (arith, p.0, p.1)

pub overflow_add-k : goal.overflow_add-k
overflow_add-k c = let p = names-few c.requires in omega (arith, p.2, p.3)

pub slice_bounds-join_names-end : goal.slice_bounds-join_names-end
slice_bounds-join_names-end c = sym (length-take-le _ _ (robot-names_fit c.requires).0)

pub slice_bounds-join_names-end-2 : goal.slice_bounds-join_names-end-2
slice_bounds-join_names-end-2 c = sym (length-take-le _ _ (robot-names_fit c.requires).1)

pub slice_bounds-join_names-end-3 : goal.slice_bounds-join_names-end-3
slice_bounds-join_names-end-3 c = sym (length-take-le _ _ (addon-names_fit c.requires).0)

pub slice_bounds-join_names-end-4 : goal.slice_bounds-join_names-end-4
slice_bounds-join_names-end-4 c = sym (length-take-le _ _ (addon-names_fit c.requires).1)

pub join_names-requires : goal.join_names-requires
join_names-requires c = named c.requires

pub returns-in-Fault : goal.returns-in-Fault
returns-in-Fault c = names-refused c.requires _ _ c.join_names.result c.in-Fault.is c.join_names.ensures

pub slice_bounds-put_rules-end-in-Names : goal.slice_bounds-put_rules-end-in-Names
slice_bounds-put_rules-end-in-Names c = omega (arith, (numbers_fit c.requires).0, c.join_names.auto.terminals)

pub slice_bounds-put_rules-end-in-Names-2 : goal.slice_bounds-put_rules-end-in-Names-2
slice_bounds-put_rules-end-in-Names-2 c = sym (length-take-le _ _ (omega (arith, (numbers_fit c.requires).0, c.join_names.auto.terminals)))

pub slice_bounds-put_rules-end-in-Names-3 : goal.slice_bounds-put_rules-end-in-Names-3
slice_bounds-put_rules-end-in-Names-3 c = omega (arith, (numbers_fit c.requires).1, c.join_names.auto.nonterminals)

pub slice_bounds-put_rules-end-in-Names-4 : goal.slice_bounds-put_rules-end-in-Names-4
slice_bounds-put_rules-end-in-Names-4 c = sym (length-take-le _ _ (omega (arith, (numbers_fit c.requires).1, c.join_names.auto.nonterminals)))

pub put_rules-end-requires : goal.put_rules-end-requires
put_rules-end-requires c = rules_ready c.requires _ _ c.join_names.result c.in-Names.is c.join_names.ensures

pub returns-in-Refused : goal.returns-in-Refused
returns-in-Refused c = last-refused c.requires _ _ c.join_names.result c.in-Names.is c.join_names.ensures c.put_rules-end.ensures c.last_tests.ensures c.in-Refused.is

pub returns-in-Read : goal.returns-in-Read
returns-in-Read c = last-joined c.requires _ _ c.join_names.result c.in-Names.is c.join_names.ensures c.put_rules-end.ensures c.last_tests.ensures c.in-Read.is
