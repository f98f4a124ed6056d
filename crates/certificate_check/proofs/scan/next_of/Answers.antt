-- next_of meets its contract: each return is the block that the count falls into.
use borrow.Author.Rules.{rules}
use native.Mathlib.Omega.{arith}
use mathlib.Core.Path.{◌≡◌, ap, ◌∙◌}
use Prim.Native.Nat.{ℕ, ◌+◌, ◌-◌, ◌*◌}
use Rattle.plans.proofs.PlanLaws.{next-left, next-right, next_shift, next-pair, cell_times}
use Rattle.certificate_check.proofs.scan.next_of.Goals as goal

pub overflow_mul-result : goal.overflow_mul-result
overflow_mul-result c = omega (arith, cell_times c.from.result c.args.q c.requires.safe.few (search rules))

pub overflow_add-result : goal.overflow_add-result
overflow_add-result c = omega (arith, c.requires.safe.left-base, cell_times c.from.result c.args.q c.requires.safe.few (search rules))

pub returns-then-k-plan : goal.returns-then-k-plan
returns-then-k-plan c = next-left c.args.plan c.args.targets.now c.args.q c.args.k c.from.result c.if-k-plan.true c.from.ensures

pub overflow_add-result-then-on_right-plan : goal.overflow_add-result-then-on_right-plan
overflow_add-result-then-on_right-plan c = omega (arith, c.requires.safe.right-base, c.fits-targets (c.args.plan.right_from + (c.args.k - c.args.plan.left)))

pub returns-then-on_right-plan : goal.returns-then-on_right-plan
returns-then-on_right-plan c = next-right c.args.plan c.args.targets.now c.args.q c.args.k c.from-then-on_right-plan.result c.if-k-plan.false c.if-on_right-plan.true c.from-then-on_right-plan.ensures

pub returns-then-on_both-plan : goal.returns-then-on_both-plan
returns-then-on_both-plan c = next_shift c.args.plan c.args.targets.now c.args.q c.args.k c.if-k-plan.false c.if-on_right-plan.false c.if-on_both-plan.true

pub index_of-requires : goal.index_of-requires
index_of-requires c = (c.requires.safe.few, omega arith, search rules, search rules)

pub returns : goal.returns
returns c = let a = c.args in
    let one : 1 * (a.q * a.q) ≡ a.q * a.q = omega arith in
    c.index_of.ensures ∙ ap (λ (n : ℕ). n + c.from-u.result * a.q + c.from-v.result) one
    ∙ next-pair c.args.plan a.targets.now a.q a.k c.from-u.result c.from-v.result c.if-k-plan.false
    c.if-on_right-plan.false c.if-on_both-plan.false c.from-u.ensures c.from-v.ensures
