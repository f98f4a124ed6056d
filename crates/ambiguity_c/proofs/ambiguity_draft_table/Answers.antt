-- ambiguity_draft_table meets its contract: the entry's promise, and its answer told in numbers.
use Rattle.ambiguity_c.proofs.ambiguity_draft_table.Goals as goal

pub returns : goal.returns
returns c = record { answer = c.table_place-answer.result; promised = c.table_place-answer.ensures; told = c.draft_table_told.ensures }
