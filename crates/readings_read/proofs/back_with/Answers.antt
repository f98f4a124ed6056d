-- `readings_read::back_with` meets its contract: its rows suffice. Assumes nothing.
use Rattle.readings_read.proofs.back_with.Goals as goal

pub check_text-read-requires : goal.check_text-read-requires
check_text-read-requires g c = c.requires.rows
