-- `readings_read::reading::check_line` meets its contract: the key, then the fault of the value's words. Assumes nothing.
use Rattle.text.specs.Spelled.{spelled}
use Rattle.readings_read.proofs.Sayings.{line-none, line-malformed, line_unknown, line_known}
use Rattle.readings_read.proofs.reading.check_line.Goals as goal

pub returns-in_default : goal.returns-in_default
returns-in_default c = let a = c.args in
    line-none a.t a.count (spelled a.text.now a.starts.now a.lengths.now) a.at a.key.now a.line.now c.in_default.ensures

pub returns-in-Err-Malformed : goal.returns-in-Err-Malformed
returns-in-Err-Malformed c = let a = c.args in
    line-malformed a.t a.count (spelled a.text.now a.starts.now a.lengths.now) a.at a.key.now a.line.now c.in-Some.start c.in-Some.ensures
    (rw c.in-Err-Malformed.field-0-is at c.in-Err-Malformed.ensures)

pub returns-in-Err-Unknown : goal.returns-in-Err-Unknown
returns-in-Err-Unknown c = let a = c.args in
    line_unknown a.t a.count (spelled a.text.now a.starts.now a.lengths.now) a.at a.key.now a.line.now c.in-Some.start c.in-Some.ensures
    (rw c.in-Err-Unknown.field-0-is at c.in-Err-Unknown.ensures)

pub returns-in-Ok : goal.returns-in-Ok
returns-in-Ok c = let a = c.args in
    line_known a.t a.count (spelled a.text.now a.starts.now a.lengths.now) a.at a.key.now a.line.now c.in-Some.start c.in-Some.ensures
    c.in-Ok.count c.in-Ok.ensures.0 c.in-Ok.ensures.1
