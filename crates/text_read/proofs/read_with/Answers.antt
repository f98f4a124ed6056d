-- `text_read::read_with` meets its contract: its rows suffice. Assumes nothing.
use Rattle.text_read.proofs.read_with.Goals as goal

pub keep_text-kept-requires : goal.keep_text-kept-requires
keep_text-kept-requires g c = c.requires.rows

pub read_in-requires : goal.read_in-requires
read_in-requires g c = record { lines = c.keep_text-kept.ensures.told; names = c.keep_text-kept.ensures.names }

pub returns : goal.returns
returns g c = c.read_in.ensures
