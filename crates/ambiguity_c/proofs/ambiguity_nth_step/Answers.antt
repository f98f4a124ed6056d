-- ambiguity_nth_step meets its contract: the entry's promise, and its answer told in numbers.
use Rattle.ambiguity_c.proofs.ambiguity_nth_step.Goals as goal

pub returns : goal.returns
returns c = record { answer = c.nth_step-answer.result; promised = c.nth_step-answer.ensures; told = c.step_told.ensures }
