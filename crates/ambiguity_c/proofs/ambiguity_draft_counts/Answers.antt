-- ambiguity_draft_counts meets its contract: the entry's promise, and its answer told in numbers.
use Rattle.ambiguity_c.proofs.ambiguity_draft_counts.Goals as goal

pub returns : goal.returns
returns c = record { answer = c.draft_counts-answer.result; promised = c.draft_counts-answer.ensures; told = c.draft_counts_told.ensures }
