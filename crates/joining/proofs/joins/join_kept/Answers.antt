-- `joining::joins::join_kept` meets its contract: the robot's text, the module's, then the join. Assumes nothing.
use Rattle.joining.proofs.JoinLaws.{robot-refused, addon-refused}
use Rattle.joining.proofs.joins.join_kept.Goals as goal

pub returns-in-Refused : goal.returns-in-Refused
returns-in-Refused c = let a = c.args in robot-refused a.robot.now a.addon.now c.check_text.ensures c.in-Refused.is

pub returns-in-Refused-check_module : goal.returns-in-Refused-check_module
returns-in-Refused-check_module c = let a = c.args in addon-refused a.robot.now a.addon.now c.check_text.ensures c.in-Read.is c.check_module.ensures c.in-Refused-check_module.is
