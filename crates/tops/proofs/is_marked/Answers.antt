-- `tops::is_marked` meets its contract: the bit of the top byte. Assumes nothing.
use Prim.Native.Nat.{ℕ, ◌/◌, ◌%◌, ◌^◌}
use mathlib.Core.Path.{refl, ap, sym}
use lib.Dec.{eqb}
use Rattle.tops.specs.Tops.{top}
use Rattle.tops.proofs.Laws.{get_d_map}
use Rattle.tops.proofs.is_marked.Goals as goal

pub returns : goal.returns
returns c = let a = c.args in ap (λ (n : ℕ). eqb (n / 2 ^ (a.i % 8) % 2) 1) (sym (get_d_map top refl a.row.now (a.i / 8)))
