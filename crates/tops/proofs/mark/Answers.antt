-- `tops::mark` meets its contract: the mask has one bit, which lies in the top byte. Assumes nothing.
use Prim.Native.Nat.{ℕ, ◌/◌, ◌%◌}
use mathlib.Core.Path.{ap, ◌∙◌}
use native.Mathlib.Omega.{arith}
use lib.Bits.{bit_or}
use lib.ListN.{get_or, set}
use Rattle.tops.specs.Tops.{tops, lows}
use Rattle.tops.proofs.Laws.{mask_top, tops-marked, lows-marked}
use Rattle.tops.proofs.mark.Goals as goal

pub returns : goal.returns
returns c = let a = c.args in
    let m = mask_top (a.i % 8) (omega arith) in record { bits = ap (λ (n : ℕ). tops (set a.row.now (a.i / 8) (bit_or (get_or a.row.now (a.i / 8) 0) n))) m ∙ tops-marked a.row.now a.i; places = ap (λ (n : ℕ). lows (set a.row.now (a.i / 8) (bit_or (get_or a.row.now (a.i / 8) 0) n))) m ∙ lows-marked a.row.now a.i }
