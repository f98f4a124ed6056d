-- ambiguity_search_room meets its contract: the entry's promise, and its answer told in numbers.
use Rattle.ambiguity_c.proofs.ambiguity_search_room.Goals as goal

pub returns : goal.returns
returns c = record { answer = c.search_room-answer.result; promised = c.search_room-answer.ensures; told = c.room_told.ensures }
