-- ambiguity_report meets its contract: the entry's promise, and its answer told in numbers.
use Rattle.ambiguity_c.proofs.ambiguity_report.Goals as goal

pub returns : goal.returns
returns c = record { answer = c.report-answer.result; promised = c.report-answer.ensures; told = c.report_told.ensures }
