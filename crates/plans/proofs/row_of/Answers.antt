-- row_of meets its contract: the inverse divides an index.
use native.Mathlib.Omega.{arith}
use Prim.Native.Nat.{ℕ, ◌*◌, ◌/◌}
use mathlib.Core.Path.{ap, ◌∙◌}
use Rattle.plans.proofs.PlanLaws.{by_inverse}
use Rattle.plans.proofs.row_of.Goals as goal

pub overflow_mul-result : goal.overflow_mul-result
overflow_mul-result c = let a = c.args in let w = by_inverse a.q a.i c.requires.0 c.requires.1 c.requires.2 in
    omega (arith, ap (λ (n : ℕ). a.i * n) c.requires.3, w.1)

pub returns : goal.returns
returns c = let a = c.args in let w = by_inverse a.q a.i c.requires.0 c.requires.1 c.requires.2 in
    ap (λ (n : ℕ). a.i * n / 4294967296) c.requires.3 ∙ w.0
