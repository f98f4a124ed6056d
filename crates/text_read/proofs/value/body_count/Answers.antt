-- `text_read::value::body_count` meets its contract: nothing, or a space and the pieces after it. Assumes nothing.
use native.Mathlib.Omega.{arith}
use mathlib.Core.Path.{sym, ◌∙◌}
use Rattle.text_read.proofs.Values.{body-none, body-other, body-space}
use Rattle.text_read.proofs.value.body_count.Goals as goal

pub returns-then-r-lt1 : goal.returns-then-r-lt1
returns-then-r-lt1 c = sym (body-none c.args.r.now (omega (arith, c.if-r-lt1.true)))

pub returns-then-r-ne-SPACE : goal.returns-then-r-ne-SPACE
returns-then-r-ne-SPACE c = sym (body-other c.args.r.now (omega arith) c.if-r-ne-SPACE.true)

pub returns : goal.returns
returns c = c.count_pieces.ensures ∙ sym (body-space c.args.r.now (omega arith) c.if-r-ne-SPACE.false)
