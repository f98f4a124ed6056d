-- Bytes joined to a number, the window on them, and its lowest 1. Assumes nothing.
use mathlib.Core.Path.{◌≡◌, refl, ap, sym, subst, ◌∙◌}
use mathlib.Core.Bool.{Bool, true, false}
use mathlib.Core.List.{List, [], ◌∷◌}
use Prim.Native.Nat.{ℕ, zero, suc, ◌+◌, ◌-◌, ◌*◌, ◌/◌, ◌%◌, ◌^◌, ◌≤◌, ◌<◌}
use native.Mathlib.Omega.{arith}
use native.Mathlib.Decide.{dec_lt}
use native.Mathlib.Nat.{div-eq_of_lt, zero-div, mul-le-mul_left, mul_assoc, mul_comm, mod-lt, div-add-mod', add-mul-div_left, add-mul-mod_self_left, pow-succ', pow-suc}
use borrow.Author.Tests.{le-leb, lt-leb}
use lib.Count.{count_trailing_zeros, under, trailing_le}
use lib.Dec.{eqb, leb}
use lib.ListN.{length, get_or}
use lib.Pow.{pow-add, pow_pos, pow_mono, shr_lt, shr-shr}
use Rattle.std.specs.Int.{w64, from_le_bytes}
use Rattle.grammar.specs.Basics.{choose}
use Rattle.triples.specs.Certificate.{bit, is_set}
use Rattle.bits.specs.Windows.{Word, Window, window_end, wide_bits, Columns, LowestOne, ClearTo}

-- a bit of x + 2 ^ s * y is one of x below s, and one of y from s on
join-low : (x y s c : ℕ) → c < s → (x + 2 ^ s * y) / 2 ^ c % 2 ≡ x / 2 ^ c % 2
join-low x y s c h =
    let d = s - c - 1 in
    let e : s ≡ c + suc d = omega arith in
    ap (λ (n : ℕ). (x + 2 ^ n * y) / 2 ^ c % 2) e
    ∙ ap (λ (n : ℕ). (x + n * y) / 2 ^ c % 2) (pow-add 2 c (suc d))
    ∙ ap (λ (n : ℕ). (x + n) / 2 ^ c % 2) (mul_assoc (2 ^ c) (2 ^ suc d) y)
    ∙ ap (λ (n : ℕ). n % 2) (add-mul-div_left x (2 ^ suc d * y) (pow_pos c))
    ∙ ap (λ (n : ℕ). (x / 2 ^ c + n * y) % 2) (pow-succ' 2 d)
    ∙ ap (λ (n : ℕ). (x / 2 ^ c + n) % 2) (mul_assoc 2 (2 ^ d) y)
    ∙ add-mul-mod_self_left (x / 2 ^ c) 2 (2 ^ d * y)

join-high : (x y s d : ℕ) → x < 2 ^ s → (x + 2 ^ s * y) / 2 ^ (s + d) % 2 ≡ y / 2 ^ d % 2
join-high x y s d h =
    let e : (x + 2 ^ s * y) / 2 ^ s ≡ y = add-mul-div_left x y (pow_pos s) ∙ ap (λ (n : ℕ). n + y) (div-eq_of_lt h) ∙ omega arith in
    ap (λ (n : ℕ). n % 2) (sym (shr-shr (x + 2 ^ s * y) s d)) ∙ ap (λ (n : ℕ). n / 2 ^ d % 2) e

-- one byte
pub word-one : (bytes : List ℕ) (b r : ℕ) → r ≡ get_or bytes b 0 → r < 256 → Word bytes b 1 r
word-one bytes b r q h = record { most = h; bits = bits }
  where
    bits : (c : ℕ) → c < 8 → r / 2 ^ c % 2 ≡ bit bytes (8 * b + c)
    bits c l =
        let e : b ≡ (8 * b + c) / 8 = omega arith in
        let f : c ≡ (8 * b + c) % 8 = omega arith in
        ap (λ (n : ℕ). n / 2 ^ c % 2) q ∙ ap (λ (n : ℕ). get_or bytes n 0 / 2 ^ c % 2) e ∙ ap (λ (n : ℕ). get_or bytes ((8 * b + c) / 8) 0 / 2 ^ n % 2) f

-- one byte more
word-next : (bytes : List ℕ) (b n x : ℕ) → Word bytes b n x → get_or bytes (b + n) 0 < 256 → Word bytes b (n + 1) (x + get_or bytes (b + n) 0 * 2 ^ (8 * n))
word-next bytes b n x s h = subst (λ (m : ℕ). Word bytes b (n + 1) (x + m)) (mul_comm (2 ^ (8 * n)) y) (record { most = most; bits = bits })
  where
    y : ℕ
    y = get_or bytes (b + n) 0

    most : x + 2 ^ (8 * n) * y < 2 ^ (8 * (n + 1))
    most =
        let e : 8 * n + 8 ≡ 8 * (n + 1) = omega arith in
        let p : 2 ^ (8 * (n + 1)) ≡ 2 ^ (8 * n) * 256 = sym (ap (λ (m : ℕ). 2 ^ m) e) ∙ pow-add 2 (8 * n) 8 in
        let l : y ≤ 255 = omega (arith, h) in
        omega (arith, p, s.most, mul-le-mul_left (2 ^ (8 * n)) l)

    bits : (c : ℕ) → c < 8 * (n + 1) → (x + 2 ^ (8 * n) * y) / 2 ^ c % 2 ≡ bit bytes (8 * b + c)
    bits c l = elim (dec_lt c (8 * n)) [
      | yes l ↦ join-low x y (8 * n) c l ∙ s.bits c l
      | no m ↦
          let e : c ≡ 8 * n + (c - 8 * n) = omega arith in
          let f : 8 * (b + n) + (c - 8 * n) ≡ 8 * b + c = omega arith in
          ap (λ (k : ℕ). (x + 2 ^ (8 * n) * y) / 2 ^ k % 2) e ∙ join-high x y (8 * n) (c - 8 * n) s.most
          ∙ (word-one bytes (b + n) y refl h).bits (c - 8 * n) (omega arith) ∙ ap (bit bytes) f
    ]

-- eight bytes, the first of them lowest
pub word_eight : (bytes : List ℕ) (b : ℕ) → ((k : ℕ) → get_or bytes k 0 < 256)
    → Word bytes b 8 (from_le_bytes w64 (get_or bytes b 0 ∷ get_or bytes (b + 1) 0 ∷ get_or bytes (b + 2) 0 ∷ get_or bytes (b + 3) 0 ∷ get_or bytes (b + 4) 0 ∷ get_or bytes (b + 5) 0 ∷ get_or bytes (b + 6) 0 ∷ get_or bytes (b + 7) 0 ∷ []))
word_eight bytes b h = next 7 _ (next 6 _ (next 5 _ (next 4 _ (next 3 _ (next 2 _ (next 1 _ (word-one bytes b (get_or bytes b 0) refl (h b))))))))
  where
    next : (n x : ℕ) → Word bytes b n x → Word bytes b (n + 1) (x + get_or bytes (b + n) 0 * 2 ^ (8 * n))
    next n x s = word-next bytes b n x s (h (b + n))

-- the window on a number of n bytes from the byte of i on
window_of : (bytes : List ℕ) (i n w : ℕ) → 0 < n → Word bytes (i / 8) n w → Window bytes i (i / 8 * 8 + 8 * n) (w / 2 ^ (i % 8))
window_of bytes i n w p s = record { most = most; bits = bits }
  where
    most : w / 2 ^ (i % 8) < 2 ^ (i / 8 * 8 + 8 * n - i)
    most =
        let e : 8 * n ≡ i / 8 * 8 + 8 * n - i + i % 8 = omega arith in
        shr_lt (i / 8 * 8 + 8 * n - i) (i % 8) (subst (λ (m : ℕ). w < 2 ^ m) e s.most)

    bits : (c : ℕ) → i + c < i / 8 * 8 + 8 * n → w / 2 ^ (i % 8) / 2 ^ c % 2 ≡ bit bytes (i + c)
    bits c h =
        let e : 8 * (i / 8) + (i % 8 + c) ≡ i + c = omega arith in
        ap (λ (m : ℕ). m % 2) (shr-shr w (i % 8) c) ∙ s.bits (i % 8 + c) (omega arith) ∙ ap (bit bytes) e

pub window_eight : (bytes : List ℕ) (n i w : ℕ) → i / 8 + 8 ≤ n → Word bytes (i / 8) 8 w → Window bytes i (window_end n i) (w / 2 ^ (i % 8))
window_eight bytes n i w h s =
    subst (λ (t : Bool). Window bytes i (choose t (i / 8 * 8 + 64) (i / 8 * 8 + 8)) (w / 2 ^ (i % 8))) (sym (le-leb (i / 8 + 8) n h)) (window_of bytes i 8 w (omega arith) s)

pub window_one : (bytes : List ℕ) (n i w : ℕ) → n < i / 8 + 8 → Word bytes (i / 8) 1 w → Window bytes i (window_end n i) (w / 2 ^ (i % 8))
window_one bytes n i w h s =
    subst (λ (t : Bool). Window bytes i (choose t (i / 8 * 8 + 64) (i / 8 * 8 + 8)) (w / 2 ^ (i % 8))) (sym (lt-leb (i / 8 + 8) n h)) (window_of bytes i 1 w (omega arith) s)

-- the bits from i on, of eight bytes from its byte on, and of the last eight
pub columns_eight : (bytes : List ℕ) (i w : ℕ) → Word bytes (i / 8) 8 w → Columns bytes i (w / 2 ^ (i % 8))
columns_eight bytes i w s = let v = window_of bytes i 8 w (omega arith) s in record { bits = λ c h l. v.bits c (omega arith) }

pub columns-last : (bytes : List ℕ) (i b w : ℕ) → b + 8 ≡ length bytes → 8 * b ≤ i → Word bytes b 8 w → Columns bytes i (w / 2 ^ (i - 8 * b))
columns-last bytes i b w q h s = record { bits = bits }
  where
    bits : (c : ℕ) → c < wide_bits → i + c < 8 * length bytes → w / 2 ^ (i - 8 * b) / 2 ^ c % 2 ≡ bit bytes (i + c)
    bits c l u =
        let e : 8 * b + (i - 8 * b + c) ≡ i + c = omega arith in
        ap (λ (m : ℕ). m % 2) (shr-shr w (i - 8 * b) c) ∙ s.bits (i - 8 * b + c) (omega arith) ∙ ap (bit bytes) e

-- the lowest n of them
pub columns_window : (bytes : List ℕ) (i n v : ℕ) → Columns bytes i v → n ≤ wide_bits → i + n ≤ 8 * length bytes → Window bytes i (i + n) (v % 2 ^ n)
columns_window bytes i n v s h l = record { most = most; bits = bits }
  where
    most : v % 2 ^ n < 2 ^ (i + n - i)
    most = let e : n ≡ i + n - i = omega arith in subst (λ (m : ℕ). v % 2 ^ n < 2 ^ m) e (mod-lt v (pow_pos n))

    whole : v % 2 ^ n + 2 ^ n * (v / 2 ^ n) ≡ v
    whole = let e = div-add-mod' v (2 ^ n) in let f = mul_comm (2 ^ n) (v / 2 ^ n) in omega (arith, e, f)

    bits : (c : ℕ) → i + c < i + n → v % 2 ^ n / 2 ^ c % 2 ≡ bit bytes (i + c)
    bits c u =
        sym (join-low (v % 2 ^ n) (v / 2 ^ n) n c (omega arith)) ∙ ap (λ (m : ℕ). m / 2 ^ c % 2) whole ∙ s.bits c (omega arith) (omega arith)

-- a window without the bits up to its k-th
pub window_next : (bytes : List ℕ) (i e w k j : ℕ) → Window bytes i e w → i + k < e → j ≡ i + k + 1 → Window bytes j e (w / 2 ^ k / 2)
window_next bytes i e w k j s h q = subst (Window bytes j e) (sym (shr-shr w k 1)) (record { most = most; bits = bits })
  where
    most : w / 2 ^ (k + 1) < 2 ^ (e - j)
    most = let l : e - i ≡ e - j + (k + 1) = omega arith in shr_lt (e - j) (k + 1) (subst (λ (m : ℕ). w < 2 ^ m) l s.most)

    bits : (c : ℕ) → j + c < e → w / 2 ^ (k + 1) / 2 ^ c % 2 ≡ bit bytes (j + c)
    bits c l =
        let f : i + (k + 1 + c) ≡ j + c = omega arith in
        ap (λ (m : ℕ). m % 2) (shr-shr w (k + 1) c) ∙ s.bits (k + 1 + c) (omega arith) ∙ ap (bit bytes) f

-- a window ends after its index, at most 64 bits on
pub window_near : (n i : ℕ) → (i < window_end n i) × (window_end n i ≤ i + 64)
window_near n i = go (leb (i / 8 + 8) n)
  where
    go : (t : Bool) → (i < choose t (i / 8 * 8 + 64) (i / 8 * 8 + 8)) × (choose t (i / 8 * 8 + 64) (i / 8 * 8 + 8) ≤ i + 64)
    go true = (omega arith, omega arith)
    go false = (omega arith, omega arith)

-- a window that is 0 has no set bit
pub window_clear : (bytes : List ℕ) (i e w : ℕ) → Window bytes i e w → w ≡ 0 → (k : ℕ) → i ≤ k → k < e → is_set bytes k ≡ false
window_clear bytes i e w s z k h l =
    let q : i + (k - i) ≡ k = omega arith in
    let b : bit bytes k ≡ 0 =
    ap (bit bytes) (sym q) ∙ sym (s.bits (k - i) (omega arith)) ∙ ap (λ (n : ℕ). n / 2 ^ (k - i) % 2) z ∙ ap (λ (n : ℕ). n % 2) (zero-div (2 ^ (k - i))) in
    ap (λ (n : ℕ). eqb n 1) b

-- a window ends with a byte, which is one of n
abbrev Whole : ℕ → ℕ → Type 0
Whole n e = (8 * (e / 8) ≡ e) × (e / 8 ≤ n)

pub window_whole : (n i : ℕ) → i < 8 * n → (8 * (window_end n i / 8) ≡ window_end n i) × (window_end n i / 8 ≤ n)
window_whole n i h = elim (dec_lt n (i / 8 + 8)) [
  | yes l ↦ subst (λ (t : Bool). Whole n (choose t (i / 8 * 8 + 64) (i / 8 * 8 + 8))) (sym (lt-leb (i / 8 + 8) n l)) (omega arith, omega arith)
  | no m ↦ subst (λ (t : Bool). Whole n (choose t (i / 8 * 8 + 64) (i / 8 * 8 + 8))) (sym (le-leb (i / 8 + 8) n (omega arith))) (omega arith, omega arith)
]

-- bytes that are 0 are passed over, eight at a time
pub clear_eight : (bytes : List ℕ) (from b w : ℕ) → ClearTo bytes from b → b + 8 ≤ length bytes → Word bytes b 8 w → w ≡ 0 → ClearTo bytes from (b + 8)
clear_eight bytes from b w old h s z = record { low = omega (arith, old.low); high = h; clear = clear }
  where
    eight : Window bytes (8 * b) (8 * b + 64) w
    eight =
        let e : 64 ≡ 8 * b + 64 - 8 * b = omega arith in
        record { most = subst (λ (n : ℕ). w < 2 ^ n) e s.most; bits = λ c l. s.bits c (omega arith) }

    clear : (k : ℕ) → 8 * from ≤ k → k < 8 * (b + 8) → is_set bytes k ≡ false
    clear k l u = elim (dec_lt k (8 * b)) [
      | yes y ↦ old.clear k l y
      | no n ↦ window_clear bytes (8 * b) (8 * b + 64) w eight z k (omega arith) (omega arith)
    ]

-- the lowest 1 lies in the window
pub lowest-within : (bytes : List ℕ) (i e w r : ℕ) → Window bytes i e w → LowestOne w r → i + r < e
lowest-within bytes i e w r s o = elim (dec_lt (i + r) e) [
  | yes l ↦ l
  | no n ↦
      let h : 2 ^ (e - i) ≤ 2 ^ r = pow_mono (omega arith) in
      let z : w / 2 ^ r ≡ 0 = div-eq_of_lt (omega (arith, h, s.most)) in
      let y : w / 2 ^ r % 2 ≡ 0 = ap (λ (n : ℕ). n % 2) z in
      absurd (omega (arith, o.one, y))
]

-- no bit before the lowest 1 is set
pub lowest_clear : (bytes : List ℕ) (i e w r : ℕ) → Window bytes i e w → LowestOne w r → (k : ℕ) → i ≤ k → k < i + r → is_set bytes k ≡ false
lowest_clear bytes i e w r s o k h l =
    let u = lowest-within bytes i e w r s o in
    let q : i + (k - i) ≡ k = omega arith in
    let b : bit bytes k ≡ 0 = ap (bit bytes) (sym q) ∙ sym (s.bits (k - i) (omega arith)) ∙ o.below (k - i) (omega arith) in
    ap (λ (n : ℕ). eqb n 1) b

pub lowest-found : (bytes : List ℕ) (i e w r : ℕ) → Window bytes i e w → LowestOne w r → is_set bytes (i + r) ≡ true
lowest-found bytes i e w r s o = ap (λ (n : ℕ). eqb n 1) (sym (s.bits r (lowest-within bytes i e w r s o)) ∙ o.one)

-- the zeros below the lowest 1, counted
half-bit : (n c : ℕ) → n / 2 / 2 ^ c % 2 ≡ n / 2 ^ suc c % 2
half-bit n c =
    let e : 1 + c ≡ suc c = omega arith in
    ap (λ (m : ℕ). m % 2) (shr-shr n 1 c) ∙ ap (λ (m : ℕ). n / 2 ^ m % 2) e

trailing_below : (k n c : ℕ) → c < count_trailing_zeros k n → n / 2 ^ c % 2 ≡ 0
unfolding count_trailing_zeros
trailing_below zero n c h = absurd (omega arith)
trailing_below (suc k) n c h = go (n % 2) refl c h (λ d l. trailing_below k (n / 2) d l)
  where
    go : (b : ℕ) → n % 2 ≡ b → (c : ℕ) → c < under b (count_trailing_zeros k (n / 2)) → ((d : ℕ) → d < count_trailing_zeros k (n / 2) → n / 2 / 2 ^ d % 2 ≡ 0)
        → n / 2 ^ c % 2 ≡ 0
    go zero e zero l rest = let q : n / 1 ≡ n = omega arith in ap (λ (m : ℕ). m % 2) q ∙ e
    go zero e (suc c) l rest = sym (half-bit n c) ∙ rest c (omega arith)
    go (suc b) e c l rest = absurd (omega arith)

trailing_one : (k n : ℕ) → 0 < n → n < 2 ^ k → n / 2 ^ count_trailing_zeros k n % 2 ≡ 1
unfolding count_trailing_zeros
trailing_one zero n h l = absurd (omega arith)
trailing_one (suc k) n h l = go (n % 2) refl (λ p q. trailing_one k (n / 2) p q)
  where
    go : (b : ℕ) → n % 2 ≡ b → (0 < n / 2 → n / 2 < 2 ^ k → n / 2 / 2 ^ count_trailing_zeros k (n / 2) % 2 ≡ 1)
        → n / 2 ^ under b (count_trailing_zeros k (n / 2)) % 2 ≡ 1
    go zero e rest = let q = pow-suc 2 k in sym (half-bit n (count_trailing_zeros k (n / 2))) ∙ rest (omega arith) (omega (arith, q, l))
    go (suc b) e rest = let q : n / 1 ≡ n = omega arith in let o : n % 2 ≡ 1 = omega arith in ap (λ (m : ℕ). m % 2) q ∙ o

pub lowest-one : (w : ℕ) → 0 < w → w < 2 ^ 64 → LowestOne w (count_trailing_zeros 64 w)
lowest-one w h l = record { most = most; one = trailing_one 64 w h l; below = λ c u. trailing_below 64 w c u }
  where
    most : count_trailing_zeros 64 w < 64
    most = elim (dec_lt (count_trailing_zeros 64 w) 64) [
      | yes u ↦ u
      | no n ↦
          let s : count_trailing_zeros 64 w ≡ 64 = omega (arith, trailing_le 64 w) in
          let o : w / 2 ^ 64 % 2 ≡ 1 = ap (λ (m : ℕ). w / 2 ^ m % 2) (sym s) ∙ trailing_one 64 w h l in
          let z : w / 2 ^ 64 ≡ 0 = div-eq_of_lt l in
          absurd (omega (arith, o, z))
    ]
