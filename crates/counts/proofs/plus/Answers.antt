-- plus meets its contract: past 1 the sum is several.
use mathlib.Core.Path.{sym}
use native.Mathlib.Omega.{arith}
use Rattle.tree_laws.proofs.Cap.{cap-same, cap_many}
use Rattle.counts.proofs.plus.Goals as goal

pub returns-then-a-gt1 : goal.returns-then-a-gt1
returns-then-a-gt1 c = sym (cap_many _ (omega arith))

pub returns-then-b-gt1 : goal.returns-then-b-gt1
returns-then-b-gt1 c = sym (cap_many _ (omega arith))

pub returns : goal.returns
returns c = sym (cap-same _ (omega arith))
