-- nth_right_end meets its contract: before a terminal the end closes, else the other side opens.
use mathlib.Core.Path.{ap, sym, ◌∙◌}
use Prim.Native.Nat.{ℕ}
use mathlib.Core.List.{[], ◌++◌, map}
use mathlib.Core.Bool.{true, false}
use Rattle.steps.specs.declared.Sides.{Sides}
use Rattle.steps.specs.Steps.{nth, record_answer}
use Rattle.steps.specs.Plan.{sides, right_to, alone}
use Rattle.steps.proofs.Layers.{both_in, low-none, right_reads, right-other}
use Rattle.steps.proofs.layer.nth_right_end.Goals as goal

pub nth_right-requires : goal.nth_right-requires
nth_right-requires c = let a = c.args in record { both = both_in 1 a.p a.q true true c.sides_of.result c.sides_of.ensures c.requires.both; low = c.requires.low_2 }

pub returns-then-is_read : goal.returns-then-is_read
returns-then-is_read c = let a = c.args in
    c.nth_right.ensures ∙ ap (λ (s : Sides). record_answer (nth (map (right_to a.number.now s) a.rs.now ++ []) a.k)) c.sides_of.ensures
    ∙ ap record_answer (right_reads a.number.now a.after.now a.t a.x a.y a.p a.q a.ls.now a.rs.now a.k (sym c.is_read.ensures ∙ c.if-is_read.true))

pub nth_alone-requires : goal.nth_alone-requires
nth_alone-requires c = let a = c.args in record { both = both_in 0 a.p a.q false false c.sides_of-s.result c.sides_of-s.ensures c.requires.both; low = c.requires.low; low_2 = low-none }

pub returns : goal.returns
returns c = let a = c.args in
    c.nth_alone.ensures ∙ ap (λ (s : Sides). record_answer (nth (alone a.number.now a.after.now a.ls.now [] s c.shared_code.result) a.k)) c.sides_of-s.ensures
    ∙ ap (λ (z : ℕ). record_answer (nth (alone a.number.now a.after.now a.ls.now [] (sides 0 a.p a.q false false) z) a.k)) c.shared_code.ensures
    ∙ ap record_answer (right-other a.number.now a.after.now a.t a.x a.y a.p a.q a.ls.now a.rs.now a.k (sym c.is_read.ensures ∙ c.if-is_read.false))
