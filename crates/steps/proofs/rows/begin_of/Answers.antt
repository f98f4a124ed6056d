-- begin_of meets its contract: the class, and its entry.
use mathlib.Core.Path.{ap, ◌∙◌}
use Prim.Native.Nat.{ℕ}
use lib.ListN.{get_or}
use Rattle.steps.proofs.rows.begin_of.Goals as goal

pub returns : goal.returns
returns c = let a = c.args in c.from.ensures ∙ ap (λ (z : ℕ). get_or a.first.now (z) 0) c.from-c.ensures
