-- ambiguity_search meets its contract: the entry's promise, and its answer told in numbers.
use Rattle.ambiguity_c.proofs.ambiguity_search.Goals as goal

pub returns : goal.returns
returns c = record { answer = c.search-answer.result; promised = c.search-answer.ensures; told = c.search_told.ensures }
