-- ambiguity_check_witness meets its contract: the entry's promise, and its answer told in numbers.
use Rattle.ambiguity_c.proofs.ambiguity_check_witness.Goals as goal

pub returns : goal.returns
returns c = record { answer = c.check_witness-verdict.result; promised = c.check_witness-verdict.ensures; told = c.check_told.ensures }
