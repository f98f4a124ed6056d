-- nth_below meets its contract: three searches, one after the other, then the rest.
use Prim.Native.Nat.{◌+◌}
use mathlib.Core.List.{◌++◌}
use Rattle.grammar.specs.Limits.{limits}
use Rattle.steps.specs.declared.StepAnswer.TheVariants.{Record}
use Rattle.steps.specs.Plan.{between, left_to, right_to, rights, shifted, below}
use Rattle.steps.proofs.Nth.{found_here, not-here, found-low}
use Rattle.steps.proofs.moving.nth_below.Goals as goal

pub left_to-requires-clause-u_lt_max_states : goal.left_to-requires-clause-u_lt_max_states
left_to-requires-clause-u_lt_max_states c = let a = c.args in found-low 0 a.s.left a.ls.now a.k _ c.requires.low c.in-Ok.ensures

pub returns-in-Ok : goal.returns-in-Ok
unfolding below
returns-in-Ok c = let a = c.args in
    let last = shifted a.number.now a.after.now a.ls.now a.s a.x in
    let later = rights a.number.now a.rs.now a.s (a.s.right + 1) limits.max_states ++ last in
    found_here (between 0 a.s.left a.ls.now) a.k _ c.in-Ok.ensures (left_to a.number.now a.s) (rights a.number.now a.rs.now a.s 0 a.s.right ++ later) _ c.left_to.ensures

pub right_to-requires-clause-v_lt_max_states : goal.right_to-requires-clause-v_lt_max_states
right_to-requires-clause-v_lt_max_states c = let a = c.args in found-low 0 a.s.right a.rs.now _ _ c.requires.low_2 c.in-Ok-find_target.ensures

pub returns-in-Ok-find_target : goal.returns-in-Ok-find_target
unfolding below
returns-in-Ok-find_target c = let a = c.args in
    let last = shifted a.number.now a.after.now a.ls.now a.s a.x in
    let later = rights a.number.now a.rs.now a.s (a.s.right + 1) limits.max_states ++ last in
    not-here (between 0 a.s.left a.ls.now) a.k _ c.in-Err.ensures (left_to a.number.now a.s) (rights a.number.now a.rs.now a.s 0 a.s.right ++ later) (Record c.right_to.result)
    (found_here (between 0 a.s.right a.rs.now) _ _ c.in-Ok-find_target.ensures (right_to a.number.now a.s) later _ c.right_to.ensures)

pub right_to-requires-in-Ok-find_target-2-clause-v_lt_max_states : goal.right_to-requires-in-Ok-find_target-2-clause-v_lt_max_states
right_to-requires-in-Ok-find_target-2-clause-v_lt_max_states c = let a = c.args in
    found-low (a.s.right + 1) limits.max_states a.rs.now _ _ c.requires.low_2 c.in-Ok-find_target-2.ensures

pub returns-in-Ok-find_target-2 : goal.returns-in-Ok-find_target-2
unfolding below
returns-in-Ok-find_target-2 c = let a = c.args in
    let last = shifted a.number.now a.after.now a.ls.now a.s a.x in
    let later = rights a.number.now a.rs.now a.s (a.s.right + 1) limits.max_states ++ last in
    let w = Record c.right_to-in-Ok-find_target-2.result in
    not-here (between 0 a.s.left a.ls.now) a.k _ c.in-Err.ensures (left_to a.number.now a.s) (rights a.number.now a.rs.now a.s 0 a.s.right ++ later) w
    (not-here (between 0 a.s.right a.rs.now) _ _ c.in-Err-find_target.ensures (right_to a.number.now a.s) later w
    (found_here (between (a.s.right + 1) limits.max_states a.rs.now) _ _ c.in-Ok-find_target-2.ensures (right_to a.number.now a.s) last _ c.right_to-in-Ok-find_target-2.ensures))

pub returns-in-Err-find_target-2 : goal.returns-in-Err-find_target-2
unfolding below
returns-in-Err-find_target-2 c = let a = c.args in
    let last = shifted a.number.now a.after.now a.ls.now a.s a.x in
    let later = rights a.number.now a.rs.now a.s (a.s.right + 1) limits.max_states ++ last in
    let w = c.nth_shifted.result in
    not-here (between 0 a.s.left a.ls.now) a.k _ c.in-Err.ensures (left_to a.number.now a.s) (rights a.number.now a.rs.now a.s 0 a.s.right ++ later) w
    (not-here (between 0 a.s.right a.rs.now) _ _ c.in-Err-find_target.ensures (right_to a.number.now a.s) later w
    (not-here (between (a.s.right + 1) limits.max_states a.rs.now) _ _ c.in-Err-find_target-2.ensures (right_to a.number.now a.s) last w c.nth_shifted.ensures))
