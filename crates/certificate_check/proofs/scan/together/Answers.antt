-- together meets its contract: one column, those that are left, or as many as a window has.
use native.Mathlib.Omega.{arith}
use Rattle.certificate_check.proofs.scan.together.Goals as goal

pub returns-then-apart : goal.returns-then-apart
returns-then-apart c = (omega arith, omega (arith, c.requires), omega arith)

pub returns-then-left-lt-COLUMNS : goal.returns-then-left-lt-COLUMNS
returns-then-left-lt-COLUMNS c = (omega (arith, c.requires), omega arith, omega (arith, c.if-left-lt-COLUMNS.true))

pub returns : goal.returns
returns c = (omega arith, omega (arith, c.if-left-lt-COLUMNS.false), omega arith)
