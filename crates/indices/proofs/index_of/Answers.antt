-- index_of meets its contract: of at most so many states, a byte and two cells of 16 bits every product fits.
use native.Mathlib.Omega.{arith}
use native.Mathlib.Nat.{mul-le-mul}
use Prim.Native.Nat.{ℕ, ◌*◌, ◌^◌, ◌≤◌, ◌<◌}
use Rattle.grammar.specs.Limits.{limits}
use Rattle.indices.proofs.index_of.Goals as goal

-- the products of a layer and a state
products : (Q f p : ℕ) → Q ≤ limits.max_states → f < 2 ^ 8 → p < 2 ^ 16
    → (Q * Q ≤ limits.max_states * limits.max_states) × (f * (Q * Q) ≤ 2 ^ 8 * (limits.max_states * limits.max_states)) × (p * Q ≤ 2 ^ 16 * limits.max_states)
products Q f p h l s =
    let k : Q * Q ≤ limits.max_states * limits.max_states = mul-le-mul {n₂ = limits.max_states} {m₂ = limits.max_states} h h in
    (k, mul-le-mul {n₂ = 2 ^ 8} {m₂ = limits.max_states * limits.max_states} (omega arith) k, mul-le-mul {n₂ = 2 ^ 16} {m₂ = limits.max_states} (omega arith) h)

pub overflow_mul-result : goal.overflow_mul-result
overflow_mul-result c = let a = c.args in omega (arith, products a.q a.f a.p c.requires.0 c.requires.1 c.requires.2)

pub overflow_mul-result-2 : goal.overflow_mul-result-2
overflow_mul-result-2 c = let a = c.args in omega (arith, products a.q a.f a.p c.requires.0 c.requires.1 c.requires.2)

pub overflow_mul-result-3 : goal.overflow_mul-result-3
overflow_mul-result-3 c = let a = c.args in omega (arith, products a.q a.f a.p c.requires.0 c.requires.1 c.requires.2)

pub overflow_add-result : goal.overflow_add-result
overflow_add-result c = let a = c.args in omega (arith, products a.q a.f a.p c.requires.0 c.requires.1 c.requires.2)

pub overflow_add-result-2 : goal.overflow_add-result-2
overflow_add-result-2 c = let a = c.args in omega (arith, products a.q a.f a.p c.requires.0 c.requires.1 c.requires.2, c.requires.3)
