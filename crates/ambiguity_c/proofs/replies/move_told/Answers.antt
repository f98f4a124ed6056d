-- move_told meets its contract: each arm is a case of the definition.
use mathlib.Core.Path.{ap, sym}
use Rattle.ambiguity_c.specs.Replies.{move_reply}
use Rattle.ambiguity_c.proofs.replies.move_told.Goals as goal

pub returns-in-Still : goal.returns-in-Still
returns-in-Still c = sym (ap move_reply c.in-Still.is)

pub returns-in-Opening : goal.returns-in-Opening
returns-in-Opening c = sym (ap move_reply c.in-Opening.is)

pub returns-in-Closing : goal.returns-in-Closing
returns-in-Closing c = sym (ap move_reply c.in-Closing.is)

pub returns-in-Symbol : goal.returns-in-Symbol
returns-in-Symbol c = sym (ap move_reply c.in-Symbol.is)
