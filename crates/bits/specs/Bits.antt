-- A list of bytes with one bit set. Assumes nothing.
use Rattle.std.specs.Prelude.{ℕ, ◌/◌, ◌%◌, ◌^◌, List, get_or, set}
use Rattle.std.specs.Int.Bits.{bit_or}

-- index 8b+c is bit c of byte b
unfoldable pub with_bit : List ℕ → ℕ → List ℕ
with_bit bytes i = set bytes (i / 8) (bit_or (get_or bytes (i / 8) 0) (2 ^ (i % 8)))
