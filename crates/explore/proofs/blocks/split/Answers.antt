-- split meets its contract: the place stays between the two, and what is before it is below the limit.
use borrow.Author.Rules.{rules}
use Prim.Native.Nat.{ℕ, ◌+◌, ◌*◌, ◌≤◌, ◌<◌}
use mathlib.Core.Path.{sym, subst}
use native.Mathlib.Decide.{ℕ_discrete}
use lib.ListN.{get_or}
use native.Mathlib.Omega.{arith}
use Rattle.explore.proofs.AddsLaws.{wide_fits}
use Rattle.explore.proofs.blocks.split.Goals as goal

pub loop-k-init : goal.loop-k-init
loop-k-init c = let z : c.args.from ≤ c.args.from = omega arith in
    (z, c.requires.0, λ j h l. absurd (omega (arith, h, l)))

pub overflow_mul-from : goal.overflow_mul-from
overflow_mul-from c = omega (arith, wide_fits c.from.result c.args.stride (search rules) c.requires.3)

pub overflow_add-base : goal.overflow_add-base
overflow_add-base c = omega (arith, wide_fits c.from.result c.args.stride (search rules) c.requires.3, c.requires.2)

pub returns-then-limit-base : goal.returns-then-limit-base
returns-then-limit-base c = record { lower_bound = (c.loop-k.invariant.0, c.loop-k.invariant.1); by_index = c.loop-k.invariant.2; limit_bound = λ h. subst (λ (u : ℕ). c.args.limit ≤ c.args.base + u * c.args.stride) c.from.ensures c.if-limit-base.true }

pub loop-k-preserved : goal.loop-k-preserved
loop-k-preserved c = (
  omega (arith, c.loop-k.invariant.0),
  omega (arith, c.loop-k-test.true),
  λ j h b. elim (ℕ_discrete j c.loop-k.k) [
    | yes q ↦ subst (λ (z : ℕ). c.args.base + get_or c.args.row.now z 0 * c.args.stride < c.args.limit) (sym q)
        (subst (λ (u : ℕ). c.args.base + u * c.args.stride < c.args.limit) c.from.ensures c.if-limit-base.false)
    | no n ↦ c.loop-k.invariant.2 j h (omega (arith, b, n))
  ],
)

pub returns : goal.returns
returns c = let z : c.args.to ≤ c.args.to = omega arith in
    record { lower_bound = (c.requires.0, z); by_index = λ j h b. c.loop-k.invariant.2 j h (omega (arith, b, c.loop-k-test.false)); limit_bound = λ h. absurd (omega (arith, h)) }
