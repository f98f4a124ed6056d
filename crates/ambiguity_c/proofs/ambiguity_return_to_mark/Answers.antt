-- ambiguity_return_to_mark meets its contract: the entry's promise, and its answer told in numbers.
use Rattle.ambiguity_c.proofs.ambiguity_return_to_mark.Goals as goal

pub returns : goal.returns
returns c = record { answer = c.return_to_mark-answer.result; promised = c.return_to_mark-answer.ensures; told = c.draft_told.ensures }
