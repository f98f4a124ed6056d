-- `lexicon::bit` meets its contract: `>>` and `% 2` take the bit that `turn` asks for. Assumes nothing.
use native.Mathlib.Omega.{arith}
use Prim.Native.Nat.{ℕ, ◌-◌, ◌/◌, ◌%◌, ◌^◌}
use mathlib.Core.Path.{sym, ap, ◌∙◌}
use Rattle.lexicon.specs.Tree.{key_bits}
use Rattle.lexicon.proofs.Tree.{turn-key, turn-past, turn_byte}
use Rattle.lexicon.proofs.bit.Goals as goal

pub returns-then-d-lt-KEY_BITS : goal.returns-then-d-lt-KEY_BITS
returns-then-d-lt-KEY_BITS c = let e = c in
    (turn-key e.args.x.now e.args.key e.args.d e.requires c.if-d-lt-KEY_BITS.true, omega arith)

pub returns-then-x-i : goal.returns-then-x-i
returns-then-x-i c = let e = c.args in
    (sym (turn-past e.x.now e.d (omega arith) (omega arith)), omega arith)

pub returns : goal.returns
returns c = let a = c.args in (
  sym (turn_byte a.x.now a.d (omega arith) (omega arith) ∙ ap (λ (w : ℕ). w / 2 ^ ((a.d - key_bits) % 8) % 2) (sym c.fold.ensures) ∙ sym c.from.ensures),
  omega arith,
)
