-- nth_above meets its contract: the search for the target, and nothing after it.
use mathlib.Core.List.{[]}
use Rattle.grammar.specs.Limits.{limits}
use Rattle.steps.specs.declared.StepAnswer.TheVariants.{NoMore}
use Rattle.steps.specs.Plan.{between, left_to, above}
use Rattle.steps.proofs.Nth.{found_here, not-here, found-low, no_more}
use Rattle.steps.proofs.moving.nth_above.Goals as goal

pub left_to-requires-clause-u_lt_max_states : goal.left_to-requires-clause-u_lt_max_states
left_to-requires-clause-u_lt_max_states c = let a = c.args in found-low a.from limits.max_states a.ls.now a.k _ c.requires.low c.in-Ok.ensures

pub returns-in-Ok : goal.returns-in-Ok
unfolding above
returns-in-Ok c = let a = c.args in found_here (between a.from limits.max_states a.ls.now) a.k _ c.in-Ok.ensures (left_to a.number.now a.s) [] _ c.left_to.ensures

pub returns-in-Err : goal.returns-in-Err
unfolding above
returns-in-Err c = let a = c.args in not-here (between a.from limits.max_states a.ls.now) a.k _ c.in-Err.ensures (left_to a.number.now a.s) [] NoMore (no_more _)
