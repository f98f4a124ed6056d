-- eight_bytes meets its contract: from_le_bytes joins the bytes read, the first of them lowest.
use mathlib.Core.Path.{subst, sym}
use Prim.Native.Nat.{ℕ, ◌<◌}
use native.Mathlib.Omega.{arith}
use lib.ListN.{get_or}
use Rattle.bits.specs.Windows.{Word}
use Rattle.bits.proofs.WindowLaws.{word_eight}
use Rattle.bits.proofs.eight_bytes.Goals as goal

pub returns : goal.returns
returns c = let a = c.args in
    let small : (k : ℕ) → get_or a.bytes.now k 0 < 256 = λ k. omega (arith, c.type_inv.bytes k) in
    subst (λ (w : ℕ). Word a.bytes.now a.b 8 w) (sym c.from_le_bytes.ensures) (word_eight a.bytes.now a.b small)
