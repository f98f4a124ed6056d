-- ambiguity_join_texts meets its contract: the entry's promise, and its answer told in numbers.
use Rattle.ambiguity_c.proofs.ambiguity_join_texts.Goals as goal

pub returns : goal.returns
returns c = record { answer = c.join_texts-answer.result; promised = c.join_texts-answer.ensures; told = c.read_told.ensures }
