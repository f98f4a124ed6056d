-- is_idle meets its contract: no block has a target, and no symbol is shifted.
use native.Mathlib.Omega.{arith}
use mathlib.Core.Path.{sym}
use Rattle.grammar.proofs.Answers.{no_bool}
use Rattle.plans.proofs.PlanLaws.{codes-differ, none_idle}
use Rattle.plans.proofs.is_idle.Goals as goal

pub returns-then-x-y-ne0 : goal.returns-then-x-y-ne0
returns-then-x-y-ne0 c = λ e. no_bool (sym e)

pub returns : goal.returns
returns c = let a = c.args in
    λ k. none_idle a.ahead.now a.member.now a.first.now a.q a.i c.digits_of-d.result.layer c.digits_of-d.result.left c.digits_of-d.result.right c.side_of-x.result c.side_of-y.result
    c.digits_of-d.ensures.1 c.digits_of-d.ensures.2 c.digits_of-d.ensures.3 c.side_of-x.ensures c.side_of-y.ensures (omega (arith, c.if-x-y-ne0.false)) (codes-differ _ _ k)
