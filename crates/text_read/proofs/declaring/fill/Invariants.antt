use mathlib.Core.Path.{◌≡◌}
use Prim.Native.Nat.{◌≤◌, ◌+◌, ◌-◌}
use lib.ListN.{length, drop}
use Rattle.text.specs.Pieces.{split_on}
use Rattle.text.specs.Read.{names_of}
use Rattle.text.specs.Promise.{starts_from, name_lengths}
use Rattle.text_read.proofs.Rows.{Filling}
use Rattle.text_read.proofs.declaring.fill.Given as goal

abbrev pub invariant-loop-base : goal.invariant-loop-base
invariant-loop-base l = (l.a ≤ length l.v) × (l.j + length (split_on 44 (drop l.a l.v)) ≡ l.k + length (names_of l.v))
    × Filling l.k l.initial.starts (starts_from l.base (names_of l.v)) l.j l.starts (starts_from (l.base + l.a) (split_on 44 (drop l.a l.v)))
    × Filling l.k l.initial.lengths (name_lengths (names_of l.v)) l.j l.lengths (name_lengths (split_on 44 (drop l.a l.v)))

abbrev pub decreases-loop-base : goal.decreases-loop-base
decreases-loop-base l = length l.v - l.a
