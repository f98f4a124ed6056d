-- `joining::gathering::put_one` meets its contract: the name stands in its place, those before it stay. Assumes nothing.
use Rattle.joining.proofs.GatherLaws.{one-room, one-put}
use Rattle.joining.proofs.gathering.put_one.Goals as goal

pub put_name-requires : goal.put_name-requires
put_name-requires c = (c.requires.listed.rows, c.requires.inside, one-room c.requires)

pub returns : goal.returns
returns c = one-put c.requires c.put_name.result c.put_name.new.out c.put_name.ensures
