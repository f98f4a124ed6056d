-- ambiguity_add_rule meets its contract: the entry's promise, and its answer told in numbers.
use Rattle.ambiguity_c.proofs.ambiguity_add_rule.Goals as goal

pub returns : goal.returns
returns c = record { answer = c.add_rule-answer.result; promised = c.add_rule-answer.ensures; told = c.draft_told.ensures }
