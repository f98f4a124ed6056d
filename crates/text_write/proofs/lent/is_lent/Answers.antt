-- `text_write::lent::is_lent` meets its contract: each refusal is one of `name_at`. Assumes nothing.
use Rattle.std.proofs.Common.{sym, ◌∙◌}
use Rattle.text_write.proofs.LentLaws.{no_start, no_length, not-inside, whole-name}
use Rattle.text_write.proofs.lent.is_lent.Goals as goal

pub returns-then-starts-i : goal.returns-then-starts-i
returns-then-starts-i c = let a = c.args in
    sym (no_start a.bytes.now a.starts.now a.lengths.now a.i c.if-starts-i.true)

pub returns-then-lengths-i : goal.returns-then-lengths-i
returns-then-lengths-i c = let a = c.args in
    sym (no_length a.bytes.now a.starts.now a.lengths.now a.i c.if-starts-i.false c.if-lengths-i.true)

pub returns-then-bytes-e : goal.returns-then-bytes-e
returns-then-bytes-e c = let a = c.args in
    sym (not-inside a.bytes.now a.starts.now a.lengths.now a.i c.if-starts-i.false c.if-lengths-i.false c.if-bytes-e.true)

pub returns : goal.returns
returns c = let a = c.args in
    c.is_name.ensures
    ∙ sym (whole-name a.bytes.now a.starts.now a.lengths.now a.i c.if-starts-i.false c.if-lengths-i.false c.if-bytes-e.false)
