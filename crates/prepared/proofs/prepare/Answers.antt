-- prepare meets its contract: the table check answers first; its record stands for the definition's grammar, whose rows are prepared.
use Rattle.table_check.proofs.Callers.{PassedTable, passed-table, refused-table}
use Rattle.prepared.proofs.Rows.{stopped_by, prepares_of, checked-of}
use Rattle.prepared.proofs.prepare.Goals as goal
use Rattle.prepared.proofs.prepare.Lts as lts
use Rattle.prepared.proofs.prepare.Reads as reads
use Rattle.prepared.proofs.prepare.Tie as tie

abbrev Place-Past-After-enum_told : Type 0
Place-Past-After-enum_told = lts.Past-After-enum_told tie.the-claims reads.Pre reads.Post

-- the table passes with the grammar of the record
passed : (c : Place-Past-After-enum_told) → let a = c.args in PassedTable a.t a.n a.table.now c.check_table-checked.result.grammar
passed c =
    let a = c.args in
    passed-table a.t a.n a.table.now c.check_table-checked.result c.check_table-checked.ensures c.in-Passed.is

pub returns-in-Refused : goal.returns-in-Refused
returns-in-Refused c = let a = c.args in
    stopped_by a.t a.n a.table.now a.callers _ _ c.in-Refused.cause c.in-Refused.at
    (refused-table a.t a.n a.table.now c.check_table-checked.result c.check_table-checked.ensures c.in-Refused.cause c.in-Refused.at c.in-Refused.is) c.stopped.ensures

pub prepare_rows-requires : goal.prepare_rows-requires
prepare_rows-requires c = let p = passed c.before.before.before.before.before.before.before.before.before.before.before in
    (p.grammar, checked-of _ _ _ _ p)

pub returns-in-Passed : goal.returns-in-Passed
returns-in-Passed c = let a = c.args in
    let p = passed c.before.before.before.before.before.before.before.before.before.before.before.before in
    prepares_of a.t a.n a.table.now a.callers _ _ p.grammar p.checked (c.prepare_rows.ensures p.grammar (checked-of _ _ _ _ p))
