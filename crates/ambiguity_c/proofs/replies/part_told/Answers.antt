-- part_told meets its contract: each arm is a case of the definition.
use mathlib.Core.Path.{ap, sym}
use Rattle.ambiguity_c.specs.Replies.{part_reply}
use Rattle.ambiguity_c.proofs.replies.part_told.Goals as goal

pub returns-in-Robot : goal.returns-in-Robot
returns-in-Robot c = sym (ap part_reply c.in-Robot.is)

pub returns-in-Module : goal.returns-in-Module
returns-in-Module c = sym (ap part_reply c.in-Module.is)

pub returns-in-Neither : goal.returns-in-Neither
returns-in-Neither c = sym (ap part_reply c.in-Neither.is)
