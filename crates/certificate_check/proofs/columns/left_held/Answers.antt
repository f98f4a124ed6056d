-- left_held meets its contract: without left moves there is nothing to be held.
use native.Mathlib.Omega.{arith}
use Rattle.certificate_check.proofs.columns.left_held.Goals as goal

pub returns-then-left-eq0 : goal.returns-then-left-eq0
returns-then-left-eq0 c = λ q h. absurd (omega (arith, c.if-left-eq0.true, h))
