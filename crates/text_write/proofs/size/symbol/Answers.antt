-- `text_write::size::symbol` meets its contract: a code below the first nonterminal is a terminal's. Assumes nothing.
use mathlib.Core.Path.{sym}
use Rattle.text_write.proofs.LengthLaws.{symbol_low, symbol_high}
use Rattle.text_write.proofs.size.symbol.Goals as goal

pub returns-then-code-lt-NONTERMINAL_BASE : goal.returns-then-code-lt-NONTERMINAL_BASE
returns-then-code-lt-NONTERMINAL_BASE c = let a = c.args in
    sym (symbol_low a.t a.code c.if-code-lt-NONTERMINAL_BASE.true)

pub returns : goal.returns
returns c = let a = c.args in
    sym (symbol_high a.t a.code c.if-code-lt-NONTERMINAL_BASE.false)
