-- ambiguity_write_joined meets its contract: the entry's promise, and its answer told in numbers.
use Rattle.ambiguity_c.proofs.ambiguity_write_joined.Goals as goal

pub returns : goal.returns
returns c = record { answer = c.write_joined-answer.result; promised = c.write_joined-answer.ensures; told = c.write_told.ensures }
