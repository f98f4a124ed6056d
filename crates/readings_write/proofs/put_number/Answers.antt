-- `readings_write::put_number` meets its contract: the library's digits are the number in decimal. Assumes nothing.
use mathlib.Core.Path.{◌≡◌, sym, subst, ◌∙◌}
use mathlib.Core.List.{List}
use Prim.Native.Nat.{ℕ, ◌+◌, ◌≤◌}
use lib.ListN.{length, take}
use Rattle.text.specs.Numbers.{decimal}
use Rattle.text_write.proofs.Filling.{wrote_as}
use Rattle.readings_write.proofs.Decimal.{decimal-digits}
use Rattle.readings_write.proofs.put_number.Goals as goal
use Rattle.readings_write.proofs.put_number.Lts as lts
use Rattle.readings_write.proofs.put_number.Reads as reads
use Rattle.readings_write.proofs.put_number.Tie as tie

abbrev Place-After-decimal : Type 0
Place-After-decimal = lts.After-decimal tie.the-claims reads.Pre reads.Post tie.handed_clauses

spelled : (c : Place-After-decimal) → take c.decimal-k.result c.decimal-k.new.out ≡ decimal c.args.x
spelled c = c.decimal-k.ensures.digits ∙ decimal-digits c.args.x c.decimal-k.result c.decimal-k.ensures.len

pub put_bytes-requires : goal.put_bytes-requires
put_bytes-requires c = subst (λ (w : List ℕ). c.args.at + length w ≤ length c.args.out.now) (sym (spelled c.before.before)) c.requires

pub returns : goal.returns
returns c = wrote_as (spelled c.before.before.before.before.before.before) c.put_bytes.ensures
