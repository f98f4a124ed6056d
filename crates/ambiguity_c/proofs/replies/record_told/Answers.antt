-- record_told meets its contract: the definition's fields, with what moved on either side.
use Rattle.ambiguity_c.proofs.replies.record_told.Goals as goal

pub returns : goal.returns
returns c = simp (c.move_told-left_told.ensures, c.move_told-right_told.ensures)
