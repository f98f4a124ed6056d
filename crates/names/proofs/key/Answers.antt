-- `names::key` meets its contract: the tables are those of the definitions. Assumes nothing.
use Rattle.std.proofs.Common.{refl}
use Rattle.text.specs.Keys.{key, key_table, key_lengths}
use Rattle.names.proofs.key.Goals as goal

pub returns : goal.returns
unfolding key key_table key_lengths
returns c = refl
