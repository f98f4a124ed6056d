-- A bit that is set: that bit, the others, the length and the range of the bytes. Assumes nothing.
use mathlib.Core.Path.{◌≡◌, refl, ap, sym, subst, ◌∙◌}
use mathlib.Core.Logic.{⊎_elim}
use mathlib.Core.Bool.{Bool, true, false}
use mathlib.Core.List.{List}
use Prim.Native.Nat.{ℕ, zero, suc, ◌+◌, ◌-◌, ◌*◌, ◌/◌, ◌%◌, ◌^◌, ◌<◌}
use native.Mathlib.Omega.{arith}
use native.Mathlib.Nat.{one-mul, div-eq_of_lt}
use native.Mathlib.Decide.{ℕ_discrete}
use borrow.Author.Tests.{eqb-true, eqb-false}
use lib.Dec.{eqb}
use lib.Bits.{bit_or, or_shr, or_mod, or_zero_r, or_lt, shifted_even}
use lib.ListN.{length, get_or, set, length-set}
use lib.Pow.{pow-lt, pow-add, shl-shr, shl_exact}
use lib.Seq.{get_or-set_same, get_or-set_other}
use Rattle.grammar.proofs.Lists.{lt_or_le}
use Rattle.triples.specs.Certificate.{bit, is_set}
use Rattle.bits.specs.Bits.{with_bit}

-- a mask of one bit, as a shift makes it
pub mask_bit : (c : ℕ) → c < 8 → (1 * 2 ^ c) % 2 ^ 8 ≡ 2 ^ c
mask_bit c h = shl_exact 1 c 8 (omega arith) (omega arith) ∙ one-mul (2 ^ c)

-- a bit of a bitwise or
or_bit : (x y c : ℕ) → bit_or x y / 2 ^ c % 2 ≡ bit_or (x / 2 ^ c % 2) (y / 2 ^ c % 2)
or_bit x y c = ap (λ (n : ℕ). n % 2) (or_shr x y c) ∙ or_mod (x / 2 ^ c) (y / 2 ^ c) 1

-- the bit d of 2 ^ c
pow_bit-same : (c : ℕ) → 2 ^ c / 2 ^ c % 2 ≡ 1
pow_bit-same c = ap (λ (n : ℕ). n / 2 ^ c % 2) (sym (one-mul (2 ^ c))) ∙ ap (λ (n : ℕ). n % 2) (shl-shr 1 c)

pow_bit-below : (c d : ℕ) → c < d → 2 ^ c / 2 ^ d % 2 ≡ 0
pow_bit-below c d h = ap (λ (n : ℕ). n % 2) (div-eq_of_lt (pow-lt h))

pow_bit-above : (c d : ℕ) → d < c → 2 ^ c / 2 ^ d % 2 ≡ 0
pow_bit-above c d h =
    let e = c - (d + 1) in
    let q : c ≡ suc e + d = omega arith in
    ap (λ (n : ℕ). 2 ^ n / 2 ^ d % 2) q ∙ ap (λ (n : ℕ). n / 2 ^ d % 2) (pow-add 2 (suc e) d)
    ∙ ap (λ (n : ℕ). n % 2) (shl-shr (2 ^ suc e) d)
    ∙ ap (λ (n : ℕ). n % 2) (sym (one-mul (2 ^ suc e))) ∙ shifted_even 1 e

or_one : (x : ℕ) → x < 2 → bit_or x 1 ≡ 1
or_one zero h = refl
or_one (suc zero) h = refl
or_one (suc (suc x)) h = absurd (let o : ⊥ = omega arith in o)

bit-same : (xs : List ℕ) (i : ℕ) → i < 8 * length xs → bit (with_bit xs i) i ≡ 1
unfolding with_bit
bit-same xs i h =
    let x = get_or xs (i / 8) 0 in
    ap (λ (n : ℕ). n / 2 ^ (i % 8) % 2) (get_or-set_same xs (i / 8) (bit_or x (2 ^ (i % 8))) 0 (omega arith))
    ∙ or_bit x (2 ^ (i % 8)) (i % 8)
    ∙ ap (bit_or (x / 2 ^ (i % 8) % 2)) (pow_bit-same (i % 8))
    ∙ or_one (x / 2 ^ (i % 8) % 2) (omega arith)

-- another bit of the same byte
same_byte : (x c d : ℕ) → (c ≡ d → ⊥) → bit_or x (2 ^ c) / 2 ^ d % 2 ≡ x / 2 ^ d % 2
same_byte x c d ne =
    or_bit x (2 ^ c) d
    ∙ ap (bit_or (x / 2 ^ d % 2)) (⊎_elim (pow_bit-below c d) (λ l. pow_bit-above c d (⊎_elim (λ k. k) (λ g. absurd (ne (omega arith))) (lt_or_le d c))) (lt_or_le c d))
    ∙ or_zero_r (x / 2 ^ d % 2)

other_at : (xs : List ℕ) (i j : ℕ) → i < 8 * length xs → (i ≡ j → ⊥) → (t : Bool) → eqb (j / 8) (i / 8) ≡ t → bit (with_bit xs i) j ≡ bit xs j
unfolding with_bit
other_at xs i j h ne true e =
    let x = get_or xs (i / 8) 0 in
    let q : j / 8 ≡ i / 8 = eqb-true (j / 8) (i / 8) e in
    ap (λ (n : ℕ). get_or (with_bit xs i) n 0 / 2 ^ (j % 8) % 2) q
    ∙ ap (λ (n : ℕ). n / 2 ^ (j % 8) % 2) (get_or-set_same xs (i / 8) (bit_or x (2 ^ (i % 8))) 0 (omega arith))
    ∙ same_byte x (i % 8) (j % 8) (λ z. ne (omega arith))
    ∙ ap (λ (n : ℕ). get_or xs n 0 / 2 ^ (j % 8) % 2) (sym q)
other_at xs i j h ne false e =
    ap (λ (n : ℕ). n / 2 ^ (j % 8) % 2) (get_or-set_other xs (i / 8) (j / 8) (bit_or (get_or xs (i / 8) 0) (2 ^ (i % 8))) 0 (eqb-false (j / 8) (i / 8) e))

bit-other : (xs : List ℕ) (i j : ℕ) → i < 8 * length xs → (i ≡ j → ⊥) → bit (with_bit xs i) j ≡ bit xs j
bit-other xs i j h ne = other_at xs i j h ne (eqb (j / 8) (i / 8)) refl

-- the bit that is set is set, and the others are as they were
pub set_same : (bytes : List ℕ) (i : ℕ) → i < 8 * length bytes → is_set (with_bit bytes i) i ≡ true
set_same bytes i h = ap (λ (n : ℕ). eqb n 1) (bit-same bytes i h)

pub set_other : (bytes : List ℕ) (i j : ℕ) → i < 8 * length bytes → (i ≡ j → ⊥) → is_set (with_bit bytes i) j ≡ is_set bytes j
set_other bytes i j h ne = ap (λ (n : ℕ). eqb n 1) (bit-other bytes i j h ne)

-- what was set stays set
pub set-kept : (bytes : List ℕ) (i j : ℕ) → i < 8 * length bytes → is_set bytes j ≡ true → is_set (with_bit bytes i) j ≡ true
set-kept bytes i j h e = elim (ℕ_discrete i j) [
  | yes q ↦ subst (λ (k : ℕ). is_set (with_bit bytes i) k ≡ true) q (set_same bytes i h)
  | no n ↦ set_other bytes i j h n ∙ e
]

pub set-length : (bytes : List ℕ) (i : ℕ) → length (with_bit bytes i) ≡ length bytes
unfolding with_bit
set-length bytes i = length-set bytes (i / 8) (bit_or (get_or bytes (i / 8) 0) (2 ^ (i % 8)))

-- bytes stay bytes
pub set-small : (bytes : List ℕ) (i : ℕ) → i < 8 * length bytes → ((b : ℕ) → get_or bytes b 0 < 256) → (b : ℕ) → get_or (with_bit bytes i) b 0 < 256
unfolding with_bit
set-small bytes i h small b = elim (ℕ_discrete b (i / 8)) [
  | yes q ↦ subst (λ (k : ℕ). get_or (set bytes (i / 8) x) k 0 < 256) (sym q)
      (subst (λ (k : ℕ). k < 256) (sym (get_or-set_same bytes (i / 8) x 0 (omega arith))) (or_lt 8 (get_or bytes (i / 8) 0) (2 ^ (i % 8)) (small (i / 8)) (pow-lt {i = i % 8} {j = 8} (omega arith))))
  | no n ↦ subst (λ (k : ℕ). k < 256) (sym (get_or-set_other bytes (i / 8) b x 0 n)) (small b)
]
  where
    x : ℕ
    x = bit_or (get_or bytes (i / 8) 0) (2 ^ (i % 8))
