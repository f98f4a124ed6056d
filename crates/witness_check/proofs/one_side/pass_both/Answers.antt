-- pass_both meets its contract: each return is one of its tests.
use mathlib.Core.Path.{sym, ◌∙◌}
use Rattle.witness_check.proofs.StepLaws.{pass_left, pass_right, pass_end, pass_last}
use Rattle.witness_check.proofs.one_side.pass_both.Goals as goal

pub returns-then-u-from : goal.returns-then-u-from
returns-then-u-from c = let a = c.args in
    pass_left a.ahead.now a.after.now a.p a.q a.u a.v (λ e. c.if-u-from.true (e ∙ sym c.from.ensures))

pub returns-then-v-from : goal.returns-then-v-from
returns-then-v-from c = let a = c.args in
    pass_right a.ahead.now a.after.now a.p a.q a.u a.v (c.if-u-from.false ∙ c.from.ensures) (λ e. c.if-v-from.true (e ∙ sym c.from-2.ensures))

pub returns-then-ahead-p-lt1 : goal.returns-then-ahead-p-lt1
returns-then-ahead-p-lt1 c = let a = c.args in
    pass_end a.ahead.now a.after.now a.p a.q a.u a.v (c.if-u-from.false ∙ c.from.ensures) (c.if-v-from.false ∙ c.from-2.ensures) c.if-ahead-p-lt1.true

pub returns : goal.returns
returns c = let a = c.args in
    pass_last a.ahead.now a.after.now a.p a.q a.u a.v (c.if-u-from.false ∙ c.from.ensures) (c.if-v-from.false ∙ c.from-2.ensures) c.if-ahead-p-lt1.false
