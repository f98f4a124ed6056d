-- nth_left_end meets its contract: before a terminal the end closes, else the other side opens.
use mathlib.Core.Path.{ap, sym, ◌∙◌}
use Prim.Native.Nat.{ℕ}
use mathlib.Core.List.{[], ◌++◌, map}
use mathlib.Core.Bool.{true, false}
use Rattle.steps.specs.declared.Sides.{Sides}
use Rattle.steps.specs.Steps.{nth, record_answer}
use Rattle.steps.specs.Plan.{sides, left_to, alone}
use Rattle.steps.proofs.Layers.{both_in, low-none, left_reads, left_other}
use Rattle.steps.proofs.layer.nth_left_end.Goals as goal

pub nth_left-requires : goal.nth_left-requires
nth_left-requires c = let a = c.args in record { both = both_in 1 a.p a.q true true c.sides_of.result c.sides_of.ensures c.requires.both; low = c.requires.low }

pub returns-then-is_read : goal.returns-then-is_read
returns-then-is_read c = let a = c.args in
    c.nth_left.ensures ∙ ap (λ (s : Sides). record_answer (nth (map (left_to a.number.now s) a.ls.now ++ []) a.k)) c.sides_of.ensures
    ∙ ap record_answer (left_reads a.number.now a.after.now a.t a.x a.y a.p a.q a.ls.now a.rs.now a.k (sym c.is_read.ensures ∙ c.if-is_read.true))

pub nth_alone-requires : goal.nth_alone-requires
nth_alone-requires c = let a = c.args in record { both = both_in 0 a.p a.q false false c.sides_of-s.result c.sides_of-s.ensures c.requires.both; low = low-none; low_2 = c.requires.low_2 }

pub returns : goal.returns
returns c = let a = c.args in
    c.nth_alone.ensures ∙ ap (λ (s : Sides). record_answer (nth (alone a.number.now a.after.now [] a.rs.now s c.shared_code.result) a.k)) c.sides_of-s.ensures
    ∙ ap (λ (z : ℕ). record_answer (nth (alone a.number.now a.after.now [] a.rs.now (sides 0 a.p a.q false false) z) a.k)) c.shared_code.ensures
    ∙ ap record_answer (left_other a.number.now a.after.now a.t a.x a.y a.p a.q a.ls.now a.rs.now a.k (sym c.is_read.ensures ∙ c.if-is_read.false))
