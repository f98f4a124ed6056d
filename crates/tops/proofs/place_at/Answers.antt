-- `tops::place_at_lem` meets its contract: the lower 24 bits. Assumes nothing.
use mathlib.Core.Path.{refl, sym}
use Rattle.tops.specs.Tops.{low}
use Rattle.tops.proofs.Laws.{get_d_map}
use Rattle.tops.proofs.place_at.Goals as goal

pub returns : goal.returns
returns c = let a = c.args in sym (get_d_map low refl a.row.now a.k)
