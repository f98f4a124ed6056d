-- times meets its contract: one law for each way out.
use native.Mathlib.Omega.{arith}
use Rattle.counts.proofs.Laws.{no_left, no_right, many_left, many_right, one_each}
use Rattle.counts.proofs.times.Goals as goal

pub returns-then-a-eq0 : goal.returns-then-a-eq0
returns-then-a-eq0 c = no_left _ _ (omega arith)

pub returns-then-b-eq0 : goal.returns-then-b-eq0
returns-then-b-eq0 c = no_right _ _ (omega arith)

pub returns-then-a-gt1 : goal.returns-then-a-gt1
returns-then-a-gt1 c = many_left _ _ (omega arith) (omega arith)

pub returns-then-b-gt1 : goal.returns-then-b-gt1
returns-then-b-gt1 c = many_right _ _ (omega arith) (omega arith)

pub returns : goal.returns
returns c = one_each _ _ (omega arith) (omega arith)
