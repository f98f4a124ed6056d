-- plan_at meets its contract: the layer is 0 or 1.
use native.Mathlib.Omega.{arith}
use mathlib.Core.Path.{◌≡◌, ap, sym, ◌∙◌}
use Prim.Native.Nat.{ℕ}
use Rattle.triples.specs.Index.{index}
use Rattle.plans.specs.Plan.{rows, plan_of}
use Rattle.plans.proofs.PlanLaws.{plan-digits}
use Rattle.plans.proofs.plan_at.Goals as goal

pub returns-then-d-eq0 : goal.returns-then-d-eq0
returns-then-d-eq0 c = let a = c.args in let R = rows a.ahead.now a.number.now a.member.now a.first.now a.after.now in
    c.plan_of.ensures ∙ plan-digits R a.t a.m a.q _ _ _ c.digits_of-d.ensures.1 c.digits_of-d.ensures.2
    ∙ ap (plan_of R a.t a.m a.q) (ap (λ (f : ℕ). index a.q f c.digits_of-d.result.left c.digits_of-d.result.right) (sym c.if-d-eq0.true) ∙ c.digits_of-d.ensures.3)

pub returns : goal.returns
returns c = let a = c.args in let R = rows a.ahead.now a.number.now a.member.now a.first.now a.after.now in
    let one : 1 ≡ c.digits_of-d.result.layer = omega (arith, c.digits_of-d.ensures.0, c.if-d-eq0.false) in
    c.plan_of-2.ensures ∙ plan-digits R a.t a.m a.q _ _ _ c.digits_of-d.ensures.1 c.digits_of-d.ensures.2
    ∙ ap (plan_of R a.t a.m a.q) (ap (λ (f : ℕ). index a.q f c.digits_of-d.result.left c.digits_of-d.result.right) one ∙ c.digits_of-d.ensures.3)
