-- ambiguity_set_mark meets its contract: the entry's promise, and its answer told in numbers.
use Rattle.ambiguity_c.proofs.ambiguity_set_mark.Goals as goal

pub returns : goal.returns
returns c = record { answer = c.set_mark-answer.result; promised = c.set_mark-answer.ensures; told = c.draft_told.ensures }
