-- `text_write::written_length` meets its contract: table faults, then what is answered for a checked table. Assumes nothing.
use Rattle.text_write.proofs.WriteLaws.{length-table, check-refused}
use Rattle.text_write.proofs.written_length.Goals as goal

pub returns-in-Refused : goal.returns-in-Refused
returns-in-Refused c = let a = c.args in
    length-table a.t a.n a.table.now a.bytes.now a.starts.now a.lengths.now _ _
    (check-refused a.t a.n a.table.now c.check_table-checked.result _ _ c.check_table-checked.ensures
    c.in-Refused.is)
