-- inverse_of meets its contract: its line is the definition.
use native.Mathlib.Omega.{arith}
use native.Mathlib.Nat.{div-le_self}
use Rattle.plans.proofs.inverse_of.Goals as goal

pub overflow_add-result : goal.overflow_add-result
overflow_add-result c = omega (arith, div-le_self 4294967296 c.args.q)
