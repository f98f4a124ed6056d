-- plan_trees meets its contract: the constant is the table of the definitions.
use Rattle.grammar.specs.Table.{encode}
use Rattle.channels.proofs.plan_trees.Goals as goal

pub returns : goal.returns
unfolding encode
returns c = c.find_trees.ensures
