-- ambiguity_draft_room meets its contract: the entry's promise.
use Rattle.ambiguity_c.proofs.ambiguity_draft_room.Goals as goal

pub returns : goal.returns
returns c = c.draft_room.ensures
