-- A number in decimal is what the kit's library writes, and a small number has few digits. Assumes nothing.
use Prim.Native.Nat.{ℕ, zero, suc, ◌+◌, ◌*◌, ◌/◌, ◌%◌, ◌^◌, ◌-◌, ◌≤◌, ◌<◌}
use mathlib.Core.Path.{◌≡◌, refl, sym, subst, ◌∙◌}
use mathlib.Core.Bool.{Bool, true, false}
use mathlib.Core.List.{[], ◌∷◌, ◌++◌}
use native.Mathlib.Omega.{arith}
use native.Mathlib.Nat.{pow-suc, mul_comm}
use borrow.Author.Tests.{lt-ltb, le-ltb, ltb-false}
use lib.Dec.{ltb}
use lib.ListN.{length, length-append}
use Rattle.grammar.specs.Basics.{choose}
use Rattle.io.specs.Digits.{hex_digit_ascii, last_digits, IsDigitCount}
use Rattle.text.specs.Numbers.{decimal_to, decimal}

-- one digit more in a power of ten
power : (k : ℕ) → 10 ^ suc k ≡ 10 * 10 ^ k
power k = pow-suc 10 k ∙ mul_comm (10 ^ k) 10

power_some : (k : ℕ) → 1 ≤ 10 ^ k
power_some zero = omega arith
power_some (suc k) = omega (arith, power_some k, power k)

digit : (x : ℕ) → x < 10 → hex_digit_ascii x ≡ 48 + x
digit x h = simp (lt-ltb x 10 h)

-- as many digits as m has room for, where x is below m
decimal-to : (m k x : ℕ) → x < m → 1 ≤ k → x < 10 ^ k → (1 < k → 10 ^ (k - 1) ≤ x) → decimal_to m x ≡ last_digits 10 k x
unfolding decimal_to
decimal-to zero k x h i a b = absurd (omega arith)
decimal-to (suc m) zero x h i a b = absurd (omega arith)
decimal-to (suc m) (suc zero) x h i a b =
    let s : x < 10 = omega (arith, power 0) in
    let r : x % 10 ≡ x = omega arith in
    simp (lt-ltb x 10 s, r)
decimal-to (suc m) (suc (suc k)) x h i a b =
    let e : suc (suc k) - 1 ≡ suc k = omega arith in
    let d : suc k - 1 ≡ k = omega arith in
    let l : 10 ^ suc k ≤ x = subst (λ n. 10 ^ n ≤ x) e (b (omega arith)) in
    let p = power_some k in
    let s : 10 ≤ x = omega (arith, power k) in
    let below : x / 10 < 10 ^ suc k = omega (arith, power (suc k)) in
    let above : 1 < suc k → 10 ^ (suc k - 1) ≤ x / 10 = λ j. subst (λ n. 10 ^ n ≤ x / 10) (sym d) (omega (arith, power k)) in
    let r = decimal-to m (suc k) (x / 10) (omega arith) (omega arith) below above in
    simp (le-ltb x 10 s, r, digit (x % 10) (omega arith))

-- what the library writes
pub decimal-digits : (x k : ℕ) → IsDigitCount 10 1 x k → last_digits 10 k x ≡ decimal x
decimal-digits x k f = sym (decimal-to (suc x) k x (omega arith) f.0 f.1 f.2)

-- a number below a power of ten has no more digits than that
digits-most : (m d x : ℕ) → x < 10 ^ suc d → length (decimal_to m x) ≤ suc d
unfolding decimal_to
digits-most zero d x h = omega arith
digits-most (suc m) d x h = go (ltb x 10) refl d h (digits-most m)
  where
    go : (b : Bool) → ltb x 10 ≡ b → (d : ℕ) → x < 10 ^ suc d
        → ((d x : ℕ) → x < 10 ^ suc d → length (decimal_to m x) ≤ suc d)
        → length (choose b ((48 + x) ∷ []) (decimal_to m (x / 10) ++ ((48 + x % 10) ∷ []))) ≤ suc d
    go true e d h again = omega arith
    go false e zero h again = absurd (omega (arith, ltb-false x 10 e, power 0))
    go false e (suc d) h again =
        let r = again d (x / 10) (omega (arith, power (suc d))) in
        omega (arith, r, length-append (decimal_to m (x / 10)) ((48 + x % 10) ∷ []))

pub decimal-most : (d x : ℕ) → x < 10 ^ suc d → length (decimal x) ≤ suc d
decimal-most d x h = digits-most (suc x) d x h
