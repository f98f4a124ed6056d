-- `tops::put_place` meets its contract: the top byte stays. Assumes nothing.
use Prim.Native.Nat.{ℕ}
use mathlib.Core.Path.{ap, ◌∙◌}
use lib.ListN.{set}
use Rattle.tops.specs.Tops.{tops, lows}
use Rattle.tops.proofs.Laws.{tops-placed, lows-placed}
use Rattle.tops.proofs.put_place.Goals as goal

pub returns : goal.returns
returns c = let s = c in
    let a = s.args in record { bits = ap (λ (n : ℕ). tops (set a.row.now a.k n)) c.with_place.ensures ∙ tops-placed a.row.now a.k a.place s.requires.1; places = ap (λ (n : ℕ). lows (set a.row.now a.k n)) c.with_place.ensures ∙ lows-placed a.row.now a.k a.place s.requires.1 }
