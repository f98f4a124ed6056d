-- ambiguity_plan_certificate_byte meets its contract: the entry's promise.
use Rattle.ambiguity_c.proofs.ambiguity_plan_certificate_byte.Goals as goal

pub returns : goal.returns
returns c = c.certificate_byte.ensures
