-- Laws of counts up to 2. Assumes nothing.
use Prim.Native.Nat.{ℕ, zero, suc, ◌+◌, ◌≤◌}
use mathlib.Core.Path.{◌≡◌, refl, sym, ap, ◌∙◌}
use native.Mathlib.Omega.{arith}
use Rattle.tree_laws.specs.Chart.{cap}

pub cap_le : (n : ℕ) → cap n ≤ n
unfolding cap
cap_le zero = omega arith
cap_le (suc zero) = omega arith
cap_le (suc (suc n)) = omega arith

pub cap-one : (n : ℕ) → 1 ≤ n → 1 ≤ cap n
unfolding cap
cap-one zero h = absurd (omega arith)
cap-one (suc zero) h = omega arith
cap-one (suc (suc n)) h = omega arith

pub cap-small : (n : ℕ) → cap n ≤ 1 → n ≤ 1
unfolding cap
cap-small zero h = omega arith
cap-small (suc zero) h = omega arith
cap-small (suc (suc n)) h = absurd (omega arith)

pub cap-same : (n : ℕ) → n ≤ 2 → cap n ≡ n
unfolding cap
cap-same zero h = refl
cap-same (suc zero) h = refl
cap-same (suc (suc zero)) h = refl
cap-same (suc (suc (suc n))) h = absurd (omega arith)

pub cap_many : (n : ℕ) → 2 ≤ n → cap n ≡ 2
unfolding cap
cap_many zero h = absurd (omega arith)
cap_many (suc zero) h = absurd (omega arith)
cap_many (suc (suc n)) h = refl

pub cap-most : (n : ℕ) → cap n ≤ 2
unfolding cap
cap-most zero = omega arith
cap-most (suc zero) = omega arith
cap-most (suc (suc n)) = omega arith

-- capping early changes nothing
pub cap_early : (n m : ℕ) → cap (cap n + m) ≡ cap (n + m)
unfolding cap
cap_early zero m = refl
cap_early (suc zero) m = refl
cap_early (suc (suc n)) m = cap_many (2 + m) (omega arith) ∙ sym (cap_many (suc (suc n) + m) (omega arith))

pub cap_late : (a n m : ℕ) → cap (a + cap n + m) ≡ cap (a + n + m)
cap_late a n m =
    let p : a + cap n + m ≡ cap n + (a + m) = omega arith in
    let q : n + (a + m) ≡ a + n + m = omega arith in
    ap cap p ∙ cap_early n (a + m) ∙ ap cap q
