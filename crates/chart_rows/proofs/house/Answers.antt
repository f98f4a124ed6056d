-- house meets its contract: one entry is written, or none.
use mathlib.Core.Path.{refl}
use native.Mathlib.Omega.{arith}
use Rattle.chart_rows.proofs.house.Goals as goal

pub returns-then-n-y : goal.returns-then-n-y
returns-then-n-y c = record { home_after = λ q. absurd (omega (arith, c.if-n-y.true)); home_unchanged = λ q. refl }

pub returns : goal.returns
returns c = let a = c.args in
    record { home_after = λ q. refl; home_unchanged = λ q. absurd (omega (arith, c.if-n-y.false)) }
