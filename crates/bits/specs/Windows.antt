-- Bits of several bytes as one number. Assumes nothing.
use Rattle.std.specs.Prelude.{ℕ, ◌+◌, ◌-◌, ◌*◌, ◌/◌, ◌%◌, ◌^◌, ◌≤◌, ◌<◌, ◌≡◌, false, List, leb, length}
use Rattle.grammar.specs.Basics.{choose}
use Rattle.triples.specs.Certificate.{bit, is_set}

-- a number with the bits of n bytes from byte b on
pub record Word (bytes : List ℕ) (b n w : ℕ) : Type 0 where
  pub most : w < 2 ^ (8 * n)
  pub bits : (c : ℕ) → c < 8 * n → w / 2 ^ c % 2 ≡ bit bytes (8 * b + c)

-- a number with the bits from index i on that lie before index e
pub record Window (bytes : List ℕ) (i e w : ℕ) : Type 0 where
  pub most : w < 2 ^ (e - i)
  pub bits : (c : ℕ) → i + c < e → w / 2 ^ c % 2 ≡ bit bytes (i + c)

-- a window reaches over eight bytes where n bytes have so many left, else over one
abbrev pub window_end : ℕ → ℕ → ℕ
window_end n i = choose (leb (i / 8 + 8) n) (i / 8 * 8 + 64) (i / 8 * 8 + 8)

-- eight bytes have so many bits from an index in the first of them on
abbrev pub wide_bits : ℕ
wide_bits = 57

-- a number with so many bits from index i on, as far as there are bytes
pub record Columns (bytes : List ℕ) (i w : ℕ) : Type 0 where
  pub bits : (c : ℕ) → c < wide_bits → i + c < 8 * length bytes → w / 2 ^ c % 2 ≡ bit bytes (i + c)

-- bit r of a number is 1, and no lower one is
pub record LowestOne (w r : ℕ) : Type 0 where
  pub most : r < 64
  pub one : w / 2 ^ r % 2 ≡ 1
  pub below : (c : ℕ) → c < r → w / 2 ^ c % 2 ≡ 0

-- no bit is 1 from byte `from` on and before byte r
pub record ClearTo (bytes : List ℕ) (from r : ℕ) : Type 0 where
  pub low : from ≤ r
  pub high : r ≤ length bytes
  pub clear : (k : ℕ) → 8 * from ≤ k → k < 8 * r → is_set bytes k ≡ false
