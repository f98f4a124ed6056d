-- trees_room meets its contract: the table's refusal stays the answer; the states are those of the definition's grammar.
use native.Mathlib.Omega.{arith}
use mathlib.Core.Path.{sym, ap, ◌∙◌}
use Prim.Native.Nat.{◌*◌}
use Rattle.grammar.specs.Refusal.{done}
use Rattle.grammar.proofs.Answers.{then-goes, then_stops}
use Rattle.table_check.proofs.Callers.{passed-table, refused-table}
use Rattle.trees.specs.Trees.{places, work_size, trees_room}
use Rattle.trees.specs.Promise.{room_told}
use Rattle.trees.specs.declared.TreesRoom.TheVariants.{Entries}
use Rattle.sentence_trees.proofs.Order.{states-of}
use Rattle.sentence_trees.proofs.trees_room.Goals as goal

pub returns-in-Refused : goal.returns-in-Refused
unfolding trees_room
returns-in-Refused c = let a = c.args in
    ap room_told (sym (then_stops _ (λ G. done (work_size G)) c.in-Refused.cause c.in-Refused.at
    (refused-table a.t a.n a.table.now c.check_table-checked.result c.check_table-checked.ensures c.in-Refused.cause c.in-Refused.at c.in-Refused.is)))

pub overflow_mul-result-in-Passed : goal.overflow_mul-result-in-Passed
overflow_mul-result-in-Passed c = let a = c.args in
    let p = passed-table a.t a.n a.table.now c.check_table-checked.result c.check_table-checked.ensures c.in-Passed.is in
    omega (arith, states-of c.check_table-checked.result.grammar p.grammar p.same, p.well_formed.size)

pub returns-in-Passed : goal.returns-in-Passed
unfolding trees_room
returns-in-Passed c = let a = c.args in
    let p = passed-table a.t a.n a.table.now c.check_table-checked.result c.check_table-checked.ensures c.in-Passed.is in
    ap (λ q. Entries (places * places * q)) (states-of c.check_table-checked.result.grammar p.grammar p.same)
    ∙ ap room_told (sym (then-goes _ (λ G. done (work_size G)) p.grammar p.checked))
