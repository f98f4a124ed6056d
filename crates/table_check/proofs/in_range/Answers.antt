-- in_range meets its contract: each return is one of the three tests of the definition.
use borrow.Author.Tests.{le-leb, lt-leb}
use Rattle.table_check.proofs.in_range.Goals as goal

pub returns-then-t-gt-MAX_TERMINALS : goal.returns-then-t-gt-MAX_TERMINALS
returns-then-t-gt-MAX_TERMINALS c = simp (lt-leb _ _ c.if-t-gt-MAX_TERMINALS.true)

pub returns-then-n-lt1 : goal.returns-then-n-lt1
returns-then-n-lt1 c = simp (le-leb _ _ c.if-t-gt-MAX_TERMINALS.false, lt-leb _ _ c.if-n-lt1.true)

pub returns : goal.returns
returns c = simp (le-leb _ _ c.if-t-gt-MAX_TERMINALS.false, le-leb _ _ c.if-n-lt1.false)
