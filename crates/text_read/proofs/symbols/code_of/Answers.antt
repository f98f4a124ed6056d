-- `text_read::symbols::code_of` meets its contract: the two cases of `code_of`. Assumes nothing.
use mathlib.Core.Path.{sym}
use Rattle.text_read.proofs.Lookups.{code-low, code-high}
use Rattle.text_read.proofs.symbols.code_of.Goals as goal

pub returns-then-i-t : goal.returns-then-i-t
returns-then-i-t c = sym (code-low c.args.t c.args.i c.if-i-t.true)

pub returns : goal.returns
returns c = sym (code-high c.args.t c.args.i c.if-i-t.false)
