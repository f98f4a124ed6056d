-- `text_read::keeping::rule_tests` meets its contract: the answer of the table check up to 8. Assumes nothing.
use native.Mathlib.Omega.{arith}
use mathlib.Core.Path.{sym}
use lib.ListN.{take}
use Rattle.grammar.specs.Limits.{limits}
use Rattle.grammar.specs.TableCheck.{stored_table}
use lib.Seq.{length-take-le}
use Rattle.text_read.proofs.Whole.{checked_refused, checked-passed}
use Rattle.text_read.proofs.keeping.rule_tests.Goals as goal

pub slice_bounds-check_up_to-end : goal.slice_bounds-check_up_to-end
slice_bounds-check_up_to-end c = sym (length-take-le _ _ (omega arith))

pub returns-in-Refused : goal.returns-in-Refused
returns-in-Refused c = let a = c.args in
    checked_refused a.t a.n a.end (stored_table limits a.t a.n (take a.end a.row.now)) c.check_up_to-checked.result c.in-Refused.cause c.in-Refused.offset c.check_up_to-checked.ensures c.in-Refused.is

pub returns-in-Passed : goal.returns-in-Passed
returns-in-Passed c = let a = c.args in
    checked-passed a.t a.n a.end (stored_table limits a.t a.n (take a.end a.row.now)) c.check_up_to-checked.result c.check_up_to-checked.ensures c.in-Passed.is
