-- nth_alone meets its contract: two searches for a way back, then the rest.
use Prim.Native.Nat.{◌+◌}
use mathlib.Core.List.{◌++◌}
use Rattle.steps.specs.declared.StepAnswer.TheVariants.{Record}
use Rattle.steps.specs.Plan.{between, left_to, right_to, rights, below, alone}
use Rattle.steps.proofs.Nth.{found_here, not-here, found-low}
use Rattle.steps.proofs.moving.nth_alone.Goals as goal

pub left_to-requires-clause-u_lt_max_states : goal.left_to-requires-clause-u_lt_max_states
left_to-requires-clause-u_lt_max_states c = let a = c.args in found-low a.s.left (a.s.left + 1) a.ls.now a.k _ c.requires.low c.in-Ok.ensures

pub returns-in-Ok : goal.returns-in-Ok
unfolding alone
returns-in-Ok c = let a = c.args in
    let later = below a.number.now a.after.now a.ls.now a.rs.now a.s a.x in
    found_here (between a.s.left (a.s.left + 1) a.ls.now) a.k _ c.in-Ok.ensures (left_to a.number.now a.s) (rights a.number.now a.rs.now a.s a.s.right (a.s.right + 1) ++ later) _ c.left_to.ensures

pub right_to-requires-clause-v_lt_max_states : goal.right_to-requires-clause-v_lt_max_states
right_to-requires-clause-v_lt_max_states c = let a = c.args in found-low a.s.right (a.s.right + 1) a.rs.now _ _ c.requires.low_2 c.in-Ok-find_target.ensures

pub returns-in-Ok-find_target : goal.returns-in-Ok-find_target
unfolding alone
returns-in-Ok-find_target c = let a = c.args in
    let later = below a.number.now a.after.now a.ls.now a.rs.now a.s a.x in
    not-here (between a.s.left (a.s.left + 1) a.ls.now) a.k _ c.in-Err.ensures (left_to a.number.now a.s) (rights a.number.now a.rs.now a.s a.s.right (a.s.right + 1) ++ later) (Record c.right_to.result)
    (found_here (between a.s.right (a.s.right + 1) a.rs.now) _ _ c.in-Ok-find_target.ensures (right_to a.number.now a.s) later _ c.right_to.ensures)

pub returns-in-Err-find_target : goal.returns-in-Err-find_target
unfolding alone
returns-in-Err-find_target c = let a = c.args in
    let later = below a.number.now a.after.now a.ls.now a.rs.now a.s a.x in
    not-here (between a.s.left (a.s.left + 1) a.ls.now) a.k _ c.in-Err.ensures (left_to a.number.now a.s) (rights a.number.now a.rs.now a.s a.s.right (a.s.right + 1) ++ later) c.nth_below.result
    (not-here (between a.s.right (a.s.right + 1) a.rs.now) _ _ c.in-Err-find_target.ensures (right_to a.number.now a.s) later c.nth_below.result c.nth_below.ensures)
