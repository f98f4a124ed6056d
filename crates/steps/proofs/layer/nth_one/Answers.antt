-- nth_one meets its contract: all moves alone, and the shared terminal.
use mathlib.Core.Path.{ap, ◌∙◌}
use Prim.Native.Nat.{ℕ}
use Rattle.steps.specs.declared.Sides.{Sides}
use Rattle.steps.specs.Steps.{nth, record_answer}
use Rattle.steps.specs.Plan.{sides, alone, plan_one}
use Rattle.steps.proofs.Layers.{both_in}
use Rattle.steps.proofs.layer.nth_one.Goals as goal

pub nth_alone-requires : goal.nth_alone-requires
nth_alone-requires c = let a = c.args in record { both = both_in 1 a.p a.q a.lc a.rc c.sides_of-s.result c.sides_of-s.ensures c.requires.both; low = c.requires.low; low_2 = c.requires.low_2 }

pub returns : goal.returns
unfolding plan_one
returns c = let a = c.args in
    c.nth_alone.ensures ∙ ap (λ (s : Sides). record_answer (nth (alone a.number.now a.after.now a.ls.now a.rs.now s c.shared_terminal.result) a.k)) c.sides_of-s.ensures
    ∙ ap (λ (z : ℕ). record_answer (nth (alone a.number.now a.after.now a.ls.now a.rs.now (sides 1 a.p a.q a.lc a.rc) z) a.k)) c.shared_terminal.ensures
