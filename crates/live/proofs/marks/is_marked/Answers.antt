-- is_marked meets its contract: the tests are the definition's.
use native.Mathlib.Omega.{arith}
use Rattle.live.proofs.MarkLaws.{marked-low, marked-high}
use mathlib.Core.Path.{sym}
use Rattle.live.proofs.marks.is_marked.Goals as goal

pub returns-then-x-lt-NONTERMINAL_BASE : goal.returns-then-x-lt-NONTERMINAL_BASE
returns-then-x-lt-NONTERMINAL_BASE c = sym (marked-low _ c.args.x (omega arith))

pub returns : goal.returns
returns c = let e = c.from.ensures in rw e (sym (marked-high _ _ (omega arith)))
