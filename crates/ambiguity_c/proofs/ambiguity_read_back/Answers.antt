-- ambiguity_read_back meets its contract: the entry's promise, and its answer told in numbers.
use Rattle.ambiguity_c.proofs.ambiguity_read_back.Goals as goal

pub returns : goal.returns
returns c = record { answer = c.read_back-answer.result; promised = c.read_back-answer.ensures; told = c.back_told.ensures }
