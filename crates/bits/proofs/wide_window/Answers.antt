-- wide_window meets its contract: the bytes without the bits below i.
use native.Mathlib.Omega.{arith}
use Prim.Native.Nat.{◌-◌}
use lib.ListN.{length}
use Rattle.bits.proofs.WindowLaws.{columns_eight, columns-last}
use Rattle.bits.proofs.wide_window.Goals as goal

pub returns-then-from-bytes : goal.returns-then-from-bytes
returns-then-from-bytes c = let a = c.args in columns_eight a.bytes.now a.i c.eight_bytes.result c.eight_bytes.ensures

pub returns : goal.returns
returns c = let a = c.args in
    columns-last a.bytes.now a.i (length a.bytes.now - 8) c.eight_bytes-2.result (omega (arith, c.requires.0)) (omega (arith, c.requires.0, c.if-from-bytes.false)) c.eight_bytes-2.ensures
