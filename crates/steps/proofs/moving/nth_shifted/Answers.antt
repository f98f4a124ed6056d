-- nth_shifted meets its contract: no shift, or moves up to where it leads, and then the shift and what follows it.
use Prim.Native.Nat.{ℕ, ◌+◌}
use mathlib.Core.Path.{ap, ◌∙◌}
use lib.ListN.{get_or}
use Rattle.steps.specs.Steps.{record_answer}
use Rattle.steps.specs.Plan.{between, pick_of, left_to, from_shift}
use Rattle.steps.proofs.Nth.{found_here, not-here, found-low, shift_none, shift_some}
use Rattle.steps.proofs.moving.nth_shifted.Goals as goal

pub returns-then-x-eq0 : goal.returns-then-x-eq0
returns-then-x-eq0 c = let a = c.args in
    c.nth_above.ensures ∙ ap record_answer (shift_none a.number.now a.after.now a.ls.now a.s a.x a.k c.if-x-eq0.true)

pub left_to-requires-clause-u_lt_max_states : goal.left_to-requires-clause-u_lt_max_states
left_to-requires-clause-u_lt_max_states c = let a = c.args in found-low (a.s.left + 1) _ a.ls.now a.k _ c.requires.low c.in-Ok.ensures

pub returns-in-Ok : goal.returns-in-Ok
returns-in-Ok c = let a = c.args in
    let z = c.in-Ok.ensures ∙ ap (λ (b : ℕ). pick_of (between (a.s.left + 1) b a.ls.now) a.k) c.past_of-past.ensures in
    found_here (between (a.s.left + 1) (get_or a.after.now a.s.left 0 + 1) a.ls.now) a.k _ z (left_to a.number.now a.s)
    (from_shift a.number.now a.after.now a.ls.now a.s a.x) _ c.left_to.ensures
    ∙ ap record_answer (shift_some a.number.now a.after.now a.ls.now a.s a.x a.k c.if-x-eq0.false)

pub returns-in-Err : goal.returns-in-Err
returns-in-Err c = let a = c.args in
    let z = c.in-Err.ensures ∙ ap (λ (b : ℕ). pick_of (between (a.s.left + 1) b a.ls.now) a.k) c.past_of-past.ensures in
    not-here (between (a.s.left + 1) (get_or a.after.now a.s.left 0 + 1) a.ls.now) a.k _ z (left_to a.number.now a.s)
    (from_shift a.number.now a.after.now a.ls.now a.s a.x) c.nth_shift.result c.nth_shift.ensures
    ∙ ap record_answer (shift_some a.number.now a.after.now a.ls.now a.s a.x a.k c.if-x-eq0.false)
