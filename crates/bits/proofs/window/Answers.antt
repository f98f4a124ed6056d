-- window meets its contract: the bytes without the bits below i.
use Prim.Native.Nat.{◌/◌, ◌<◌}
use lib.ListN.{length}
use native.Mathlib.Omega.{arith}
use Rattle.bits.proofs.WindowLaws.{word-one, window_eight, window_one}
use Rattle.bits.proofs.window.Goals as goal

pub returns-then-b-bytes : goal.returns-then-b-bytes
returns-then-b-bytes c = let a = c.args in
    window_eight a.bytes.now (length a.bytes.now) a.i c.eight_bytes.result c.if-b-bytes.true c.eight_bytes.ensures

pub returns : goal.returns
returns c = let a = c.args in
    let small : c.from.result < 256 = omega (arith, c.from.ensures, c.type_inv.bytes (a.i / 8)) in
    window_one a.bytes.now (length a.bytes.now) a.i c.from.result c.if-b-bytes.false (word-one a.bytes.now (a.i / 8) c.from.result c.from.ensures small)
