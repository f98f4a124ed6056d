-- split meets its contract: what was passed over showed no split.
use native.Mathlib.Omega.{arith}
use native.Mathlib.Decide.{ℕ_discrete}
use mathlib.Core.Path.{subst}
use Rattle.tree_walk.specs.Charted.{rows_of, width, Both}
use Rattle.tree_walk.proofs.shown.split.Goals as goal

pub loop-k-preserved : goal.loop-k-preserved
loop-k-preserved c = let a = c.args in
    λ s l h x. elim (ℕ_discrete s c.loop-k.k) [
      | yes f ↦ c.both.ensures.fact c.if-both.false (subst (λ n. Both a.work.now (width (rows_of a.rows.now)) a.h a.z a.i n a.j) f x)
      | no f ↦ c.loop-k.invariant s l (omega arith) x
    ]

pub returns-then-both : goal.returns-then-both
returns-then-both c = record { lower_bound = (omega arith, omega arith); by_index = λ k a b x. c.both.ensures.both c.if-both.true }

pub returns : goal.returns
returns c = let a = c.args in record {
  lower_bound = (c.requires.span.rises, omega arith);
  by_index = λ k l h x. elim (ℕ_discrete k a.j) [
    | yes f ↦ subst (λ n. Both a.work.now (width (rows_of a.rows.now)) a.h a.z a.i n a.j) f x
    | no f ↦ absurd (c.loop-k.invariant k l (omega arith) x)
  ];
}
