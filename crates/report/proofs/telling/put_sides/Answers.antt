-- `report::telling::put_sides` meets its contract: the sides of the shortest witness are walked, then written. Assumes nothing.
use native.Mathlib.Omega.{arith}
use mathlib.Core.Path.{sym}
use mathlib.Core.List.{List}
use Prim.Native.Nat.{ℕ, ◌≤◌}
use lib.ListN.{length, length-replicate}
use lib.Seq.{length-take-le}
use Rattle.text_write.proofs.Filling.{wrote_as}
use Rattle.report.proofs.Strings.{walkable, sayable, sides_fit, sides-lines}
use Rattle.report.proofs.telling.put_sides.Goals as goal
use Rattle.report.proofs.telling.put_sides.Lts as lts
use Rattle.report.proofs.telling.put_sides.Reads as reads
use Rattle.report.proofs.telling.put_sides.Tie as tie

abbrev Place-After-two_sides : Type 0
Place-After-two_sides = lts.After-two_sides tie.the-claims reads.Pre reads.Post

abbrev left_after : Place-After-two_sides → List ℕ
left_after c = c.two_sides-size.new.left

abbrev right_after : Place-After-two_sides → List ℕ
right_after c = c.two_sides-size.new.right

fits : (c : Place-After-two_sides) → (c.two_sides-size.result.left ≤ length (left_after c)) × (c.two_sides-size.result.right ≤ length (right_after c))
fits c = sides_fit _ _ _ _ _ _ _ _ _ _ c.requires c.two_sides-size.result (left_after c) (right_after c) c.two_sides-size.ensures

pub two_sides-size-requires : goal.two_sides-size-requires
two_sides-size-requires c = walkable _ _ _ _ _ _ _ _ _ _ c.requires _ _
    (length-replicate {A = ℕ} 4608 0) (length-replicate {A = ℕ} 4608 0)

pub slice_bounds-left-end : goal.slice_bounds-left-end
slice_bounds-left-end c = omega (arith, (fits c.before.before.before.before).0, c.two_sides-size.auto.left, length-replicate {A = ℕ} 4608 0)

pub slice_bounds-put_readings-end : goal.slice_bounds-put_readings-end
slice_bounds-put_readings-end c = sym (length-take-le _ _ (fits c.before.before.before.before.before).0)

pub slice_bounds-right-end : goal.slice_bounds-right-end
slice_bounds-right-end c = omega (arith, (fits c.before.before.before.before.before).1, c.two_sides-size.auto.right, length-replicate {A = ℕ} 4608 0)

pub slice_bounds-put_readings-end-2 : goal.slice_bounds-put_readings-end-2
slice_bounds-put_readings-end-2 c = sym (length-take-le _ _ (fits c.before.before.before.before.before.before).1)

pub put_readings-requires : goal.put_readings-requires
put_readings-requires c = sayable _ _ _ _ _ _ _ _ _ _ c.requires c.two_sides-size.result (left_after c.before.before.before.before.before.before) (right_after c.before.before.before.before.before.before) c.two_sides-size.ensures

pub returns : goal.returns
returns c = wrote_as (sides-lines _ _ _ _ _ _ _ _ _ _ c.requires c.two_sides-size.result (left_after c.before.before.before.before.before.before.before.before.before) (right_after c.before.before.before.before.before.before.before.before.before) c.two_sides-size.ensures) c.put_readings.ensures
