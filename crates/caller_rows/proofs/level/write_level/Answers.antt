-- write_level meets its contract: the front, then all rules.
use Rattle.caller_rows.proofs.LevelRowLaws.{level_start}
use Rattle.caller_rows.proofs.level.write_level.Goals as goal

pub returns-clause-written : goal.returns-clause-written
returns-clause-written c = let a = c.args in c.write_rules.ensures.written _ (level_start a.lefts.now a.lengths.now a.codes.now a.kinds a.first.now a.callers.now a.below.now a.widths.now a.ranks.now _ _ c.write_front.ensures.written)
