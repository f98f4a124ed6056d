-- ambiguity_withdraw_rule meets its contract: the entry's promise, and its answer told in numbers.
use Rattle.ambiguity_c.proofs.ambiguity_withdraw_rule.Goals as goal

pub returns : goal.returns
returns c = record { answer = c.withdraw_rule-answer.result; promised = c.withdraw_rule-answer.ensures; told = c.draft_told.ensures }
