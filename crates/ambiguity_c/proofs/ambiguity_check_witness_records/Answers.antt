-- ambiguity_check_witness_records meets its contract: the entry's promise, and its answer told in numbers.
use Rattle.ambiguity_c.proofs.ambiguity_check_witness_records.Goals as goal

pub returns : goal.returns
returns c = record { answer = c.check_witness_records-verdict.result; promised = c.check_witness_records-verdict.ensures; told = c.check_told.ensures }
