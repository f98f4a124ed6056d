-- `joining::writing::write_held` meets its contract: the writer writes the joined text from the names that are gathered. Assumes nothing.
use Prim.Native.Nat.{ℕ, ◌*◌}
use native.Mathlib.Omega.{arith}
use lib.ListN.{length-replicate}
use Rattle.text_read.specs.Values.{all_names}
use Rattle.joining.specs.Gathering.{longest}
use Rattle.joining.proofs.Writes.{writes_joined}
use Rattle.joining.proofs.writing.write_held.Goals as goal

pub returns : goal.returns
returns c = let a = c.args in
    writes_joined c.requires.held c.gather_names.new.bytes c.gather_names.new.places c.gather_names.new.spans
    (omega (arith, c.gather_names.auto.bytes, length-replicate {A = ℕ} (all_names * longest) 0))
    c.gather_names.ensures a.out.now c.write_text.result c.write_text.new.out c.write_text.ensures
