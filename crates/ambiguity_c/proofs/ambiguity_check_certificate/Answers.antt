-- ambiguity_check_certificate meets its contract: the entry's promise, and its answer told in numbers.
use Rattle.ambiguity_c.proofs.ambiguity_check_certificate.Goals as goal

pub returns : goal.returns
returns c = record { answer = c.check_certificate-verdict.result; promised = c.check_certificate-verdict.ensures; told = c.check_told.ensures }
