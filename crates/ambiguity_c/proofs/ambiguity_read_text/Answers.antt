-- ambiguity_read_text meets its contract: the entry's promise, and its answer told in numbers.
use Rattle.ambiguity_c.proofs.ambiguity_read_text.Goals as goal

pub returns : goal.returns
returns c = record { answer = c.read_text-answer.result; promised = c.read_text-answer.ensures; told = c.read_told.ensures }
