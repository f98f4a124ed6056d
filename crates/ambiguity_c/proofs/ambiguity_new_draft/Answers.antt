-- ambiguity_new_draft meets its contract: the entry's promise, and its answer told in numbers.
use Rattle.ambiguity_c.proofs.ambiguity_new_draft.Goals as goal

pub returns : goal.returns
returns c = record { answer = c.new_draft-answer.result; promised = c.new_draft-answer.ensures; told = c.draft_told.ensures }
