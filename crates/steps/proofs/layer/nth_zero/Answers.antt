-- nth_zero meets its contract: the four cases of two ends.
use mathlib.Core.Path.{ap, ◌∙◌}
use Prim.Native.Nat.{ℕ}
use mathlib.Core.Bool.{true, false}
use Rattle.steps.specs.declared.Sides.{Sides}
use Rattle.steps.specs.Steps.{nth, record_answer}
use Rattle.steps.specs.Plan.{sides, alone}
use Rattle.steps.proofs.Layers.{both_in, zero-at, both_ends, no_ends}
use Rattle.steps.proofs.layer.nth_zero.Goals as goal

pub returns-then-rc : goal.returns-then-rc
returns-then-rc c = let a = c.args in c.nth_pair.ensures ∙ ap record_answer (both_ends a.number.now a.after.now a.t a.x a.y a.p a.q a.ls.now a.rs.now a.k ∙ (zero-at a.number.now a.after.now a.t a.x a.y a.p a.q a.ls.now a.rs.now a.k a.lc a.rc true true c.if-lc.true c.if-rc.true))

pub returns-then-lc : goal.returns-then-lc
returns-then-lc c = let a = c.args in c.nth_left_end.ensures ∙ ap record_answer (zero-at a.number.now a.after.now a.t a.x a.y a.p a.q a.ls.now a.rs.now a.k a.lc a.rc true false c.if-lc.true c.if-rc.false)

pub returns-then-rc-2 : goal.returns-then-rc-2
returns-then-rc-2 c = let a = c.args in c.nth_right_end.ensures ∙ ap record_answer (zero-at a.number.now a.after.now a.t a.x a.y a.p a.q a.ls.now a.rs.now a.k a.lc a.rc false true c.if-lc.false c.if-rc-2.true)

pub nth_alone-requires : goal.nth_alone-requires
nth_alone-requires c = let a = c.args in record { both = both_in 0 a.p a.q false false c.sides_of-s.result c.sides_of-s.ensures c.requires.both; low = c.requires.low; low_2 = c.requires.low_2 }

pub returns : goal.returns
returns c = let a = c.args in
    c.nth_alone.ensures ∙ ap (λ (s : Sides). record_answer (nth (alone a.number.now a.after.now a.ls.now a.rs.now s c.shared_code.result) a.k)) c.sides_of-s.ensures
    ∙ ap (λ (z : ℕ). record_answer (nth (alone a.number.now a.after.now a.ls.now a.rs.now (sides 0 a.p a.q false false) z) a.k)) c.shared_code.ensures
    ∙ ap record_answer (no_ends a.number.now a.after.now a.t a.x a.y a.p a.q a.ls.now a.rs.now a.k ∙ (zero-at a.number.now a.after.now a.t a.x a.y a.p a.q a.ls.now a.rs.now a.k a.lc a.rc false false c.if-lc.false c.if-rc-2.false))
