-- no_record meets its contract: field by field the definition.
use mathlib.Core.Path.{refl}
use Rattle.ambiguity_c.proofs.replies.no_record.Goals as goal

pub returns : goal.returns
returns c = refl
