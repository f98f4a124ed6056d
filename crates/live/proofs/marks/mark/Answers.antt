-- mark meets its contract: the test is the definition's.
use native.Mathlib.Omega.{arith}
use mathlib.Core.Path.{refl, sym, ◌∙◌}
use Rattle.live.specs.Marks.{with_mark, new_mark}
use Rattle.live.proofs.MarkLaws.{unmarked-zero}
use Rattle.live.proofs.marks.mark.Goals as goal

pub returns-then-is_marked : goal.returns-then-is_marked
unfolding with_mark new_mark
returns-then-is_marked c = let e = sym c.is_marked.ensures ∙ c.if-is_marked.true in record { marks_after = rw e refl; value = rw e refl }

pub overflow_sub-x : goal.overflow_sub-x
overflow_sub-x c = (unmarked-zero _ _ (sym c.is_marked.ensures ∙ c.if-is_marked.false)).0

pub bounds-marks-from : goal.bounds-marks-from
bounds-marks-from c = let z = (unmarked-zero _ _ (sym c.is_marked.ensures ∙ c.if-is_marked.false)).0 in omega (arith, z, c.from.ensures)

pub returns : goal.returns
unfolding with_mark new_mark
returns c = let e = sym c.is_marked.ensures ∙ c.if-is_marked.false in record { marks_after = rw (e, c.from.ensures) refl; value = rw e refl }
