-- plan_room meets its contract: the command set has 27 states.
use mathlib.Core.Path.{refl}
use Rattle.grammar.specs.Grammar.{state_count}
use Rattle.channels.proofs.plan_room.Goals as goal

pub returns : goal.returns
unfolding state_count
returns c = refl
