-- ambiguity_trees_room meets its contract: the entry's promise, and its answer told in numbers.
use Rattle.ambiguity_c.proofs.ambiguity_trees_room.Goals as goal

pub returns : goal.returns
returns c = record { answer = c.trees_room-answer.result; promised = c.trees_room-answer.ensures; told = c.trees_room_told.ensures }
