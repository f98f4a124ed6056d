-- ambiguity_check_table meets its contract: the entry's promise, and its answer told in numbers.
use Rattle.ambiguity_c.proofs.ambiguity_check_table.Goals as goal

pub returns : goal.returns
returns c = record { answer = c.check_table-checked.result; promised = c.check_table-checked.ensures; told = c.table_told.ensures }
