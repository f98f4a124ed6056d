-- `text_write::size::text_length` meets its contract: the lines' lengths are summed. Assumes nothing.
use Rattle.std.proofs.Common.{arith}
use Rattle.grammar.specs.Table.{decode}
use Rattle.text_write.proofs.LengthLaws.{text-sum}
use Rattle.text_write.proofs.size.text_length.Goals as goal

pub join_length-x-requires : goal.join_length-x-requires
join_length-x-requires c = let a = c.args in omega (arith, text-sum a.t a.lengths.now (decode a.table.now), c.requires.2)

pub join_length-y-requires : goal.join_length-y-requires
join_length-y-requires c = let a = c.args in omega (arith, text-sum a.t a.lengths.now (decode a.table.now), c.requires.2)

pub overflow_add-result : goal.overflow_add-result
overflow_add-result c = let a = c.args in
    omega (arith, text-sum a.t a.lengths.now (decode a.table.now), c.requires.2, c.join_length-x.ensures)

pub overflow_add-result-2 : goal.overflow_add-result-2
overflow_add-result-2 c = let a = c.args in
    omega (arith, text-sum a.t a.lengths.now (decode a.table.now), c.requires.2, c.join_length-x.ensures, c.join_length-y.ensures)

pub rules_length-requires : goal.rules_length-requires
rules_length-requires c = let a = c.args in
    (c.requires.0, omega (arith, text-sum a.t a.lengths.now (decode a.table.now), c.requires.2))

pub overflow_add-result-3 : goal.overflow_add-result-3
overflow_add-result-3 c = let a = c.args in
    omega (
      arith,
      text-sum a.t a.lengths.now (decode a.table.now),
      c.requires.2,
      c.join_length-x.ensures,
      c.join_length-y.ensures,
      c.rules_length.ensures,
    )

pub returns : goal.returns
returns c = let a = c.args in
    omega (
      arith,
      text-sum a.t a.lengths.now (decode a.table.now),
      c.join_length-x.ensures,
      c.join_length-y.ensures,
      c.rules_length.ensures,
    )
