-- ambiguity_written_length meets its contract: the entry's promise, and its answer told in numbers.
use Rattle.ambiguity_c.proofs.ambiguity_written_length.Goals as goal

pub returns : goal.returns
returns c = record { answer = c.written_length-answer.result; promised = c.written_length-answer.ensures; told = c.length_told.ensures }
