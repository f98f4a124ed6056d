-- ambiguity_plan_room meets its contract: the entry's promise.
use Rattle.ambiguity_c.proofs.ambiguity_plan_room.Goals as goal

pub returns : goal.returns
returns c = c.plan_room.ensures
