-- `text_read::rules::put_entry` meets its contract: an entry past a row's end changes nothing. Assumes nothing.
use mathlib.Core.Path.{sym}
use lib.Seq.{set_out}
use Rattle.text_read.proofs.rules.put_entry.Goals as goal

pub returns-then-row-j : goal.returns-then-row-j
returns-then-row-j c = let a = c.args in sym (set_out a.row.now a.j a.x c.if-row-j.true)
