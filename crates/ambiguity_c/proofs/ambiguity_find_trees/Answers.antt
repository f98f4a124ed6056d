-- ambiguity_find_trees meets its contract: the entry's promise, and its answer told in numbers.
use Rattle.ambiguity_c.proofs.ambiguity_find_trees.Goals as goal

pub returns : goal.returns
returns c = record { answer = c.find_trees-answer.result; promised = c.find_trees-answer.ensures; told = c.trees_told.ensures }
