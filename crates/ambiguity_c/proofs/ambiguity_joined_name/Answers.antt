-- ambiguity_joined_name meets its contract: the entry's promise, and its answer told in numbers.
use Rattle.ambiguity_c.proofs.ambiguity_joined_name.Goals as goal

pub returns : goal.returns
returns c = record { answer = c.joined_place-place.result; promised = c.joined_place-place.ensures; told = c.part_told.ensures }
