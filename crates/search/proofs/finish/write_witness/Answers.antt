-- write_witness meets its contract: the way that is written is the one to the place of the index.
use Rattle.search.proofs.FinishLaws.{written_as}
use Rattle.search.proofs.finish.write_witness.Goals as goal

pub returns : goal.returns
returns c = written_as c.place_of-place.ensures.1 c.write_way.ensures
