-- set_bit meets its contract: 1 shifted by c is 2 ^ c.
use native.Mathlib.Omega.{arith}
use Prim.Native.Nat.{ℕ, ◌/◌, ◌%◌}
use mathlib.Core.Path.{ap}
use lib.Bits.{bit_or}
use lib.ListN.{get_or, set}
use Rattle.bits.specs.Bits.{with_bit}
use Rattle.bits.proofs.Laws.{mask_bit}
use Rattle.bits.proofs.set_bit.Goals as goal

pub returns : goal.returns
unfolding with_bit
returns c = let a = c.args in
    ap (λ (m : ℕ). set a.bytes.now (a.i / 8) (bit_or (get_or a.bytes.now (a.i / 8) 0) m)) (mask_bit (a.i % 8) (omega arith))
