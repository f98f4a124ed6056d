-- ambiguity_read_plan meets its contract: the entry's promise, and its answer told in numbers.
use Rattle.ambiguity_c.proofs.ambiguity_read_plan.Goals as goal

pub returns : goal.returns
returns c = record { answer = c.read_plan-answer.result; promised = c.read_plan-answer.ensures; told = c.plan_told.ensures }
