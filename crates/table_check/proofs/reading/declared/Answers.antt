-- declared meets its contract: a code is tried as a terminal, then as a nonterminal.
use native.Mathlib.Omega.{arith}
use borrow.Author.Tests.{le-leb, lt-leb}
use Prim.Native.Nat.{◌<◌}
use Rattle.grammar.specs.Limits.{limits}
use Rattle.table_check.proofs.RecordLaws.{below_shift}
use Rattle.table_check.proofs.reading.declared.Goals as goal

pub returns-then-x-lt1 : goal.returns-then-x-lt1
returns-then-x-lt1 c = let x = c.args.x in let h : x < limits.nonterminal_base = omega (arith, c.if-x-lt1.true) in simp (lt-leb 1 x c.if-x-lt1.true, lt-leb limits.nonterminal_base x h)

pub returns-then-x-t : goal.returns-then-x-t
returns-then-x-t c = simp (le-leb 1 _ c.if-x-lt1.false, le-leb _ _ c.if-x-t.true)

pub returns-then-x-lt-NONTERMINAL_BASE : goal.returns-then-x-lt-NONTERMINAL_BASE
returns-then-x-lt-NONTERMINAL_BASE c = simp (le-leb 1 _ c.if-x-lt1.false, lt-leb _ _ c.if-x-t.false, lt-leb limits.nonterminal_base _ c.if-x-lt-NONTERMINAL_BASE.true)

pub returns : goal.returns
returns c = simp (le-leb 1 _ c.if-x-lt1.false, lt-leb _ _ c.if-x-t.false, le-leb limits.nonterminal_base _ c.if-x-lt-NONTERMINAL_BASE.false) (below_shift limits.nonterminal_base _ _ c.if-x-lt-NONTERMINAL_BASE.false)
