-- `text_read::keeping::last_tests` meets its contract: the answer of the table check. Assumes nothing.
use native.Mathlib.Omega.{arith}
use mathlib.Core.Path.{sym}
use lib.ListN.{take}
use Rattle.grammar.specs.Limits.{limits}
use Rattle.grammar.specs.TableCheck.{check_table}
use lib.Seq.{length-take-le}
use Rattle.text_read.proofs.Whole.{checked_refused, checked-passed}
use Rattle.text_read.proofs.keeping.last_tests.Goals as goal

pub slice_bounds-check_table-end : goal.slice_bounds-check_table-end
slice_bounds-check_table-end c = sym (length-take-le _ _ (omega arith))

pub returns-in-Refused : goal.returns-in-Refused
returns-in-Refused c = let a = c.args in
    checked_refused a.t a.n a.end (check_table limits a.t a.n (take a.end a.row.now)) c.check_table-checked.result c.in-Refused.cause c.in-Refused.at c.check_table-checked.ensures c.in-Refused.is

pub returns-in-Passed : goal.returns-in-Passed
returns-in-Passed c = let a = c.args in
    checked-passed a.t a.n a.end (check_table limits a.t a.n (take a.end a.row.now)) c.check_table-checked.result c.check_table-checked.ensures c.in-Passed.is
