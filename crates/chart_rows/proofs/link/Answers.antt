-- link meets its contract: two entries are written, or none.
use mathlib.Core.Path.{refl}
use native.Mathlib.Omega.{arith}
use Rattle.chart_rows.proofs.link.Goals as goal

pub returns-then-x-lt-NONTERMINAL_BASE : goal.returns-then-x-lt-NONTERMINAL_BASE
returns-then-x-lt-NONTERMINAL_BASE c = record { next_unchanged = λ q. (refl, refl); next_after = λ q. absurd (omega (arith, c.if-x-lt-NONTERMINAL_BASE.true)) }

pub returns : goal.returns
returns c = let a = c.args in
    record { next_unchanged = λ q. absurd (omega (arith, c.if-x-lt-NONTERMINAL_BASE.false)); next_after = λ q. (refl, refl) }
