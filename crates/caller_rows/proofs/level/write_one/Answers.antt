-- write_one meets its contract: the parts are those of the rule.
use Rattle.grammar.specs.Limits.{limits}
use Rattle.caller_rows.proofs.LevelRowLaws.{part_is, one_ruled, one_written, wide_less}
use Rattle.caller_rows.proofs.level.write_one.Goals as goal

pub write_rule-requires : goal.write_rule-requires
write_rule-requires c = let a = c.args in
    let r = one_ruled a.lefts.now a.lengths.now a.codes.now a.count a.kinds a.first.now a.callers.now a.below.now a.widths.now a.ranks.now c.requires.levelled a.i c.requires.i_lt_count.0 _ _ a.low a.at (part_is a.codes.now a.u _ c.from-k.result _ c.requires.i_lt_count.1 c.from-k.ensures) (part_is a.callers.now c.segment_at-from.result _ c.from-w.result _ c.segment_at-from.ensures c.from-w.ensures) c.requires.i_lt_count.2 c.requires.i_lt_count.3 in
    record { ruled = r; wide = wide_less _ limits.max_states _ r.room c.requires.wide }

pub returns-clause-written : goal.returns-clause-written
returns-clause-written c = let a = c.args in
    one_written a.lefts.now a.lengths.now a.codes.now a.count a.kinds a.first.now a.callers.now a.below.now a.widths.now a.ranks.now c.requires.levelled a.i c.requires.i_lt_count.0 _ _ a.low a.at _ _ (part_is a.codes.now a.u _ c.from-k.result _ c.requires.i_lt_count.1 c.from-k.ensures) (part_is a.callers.now c.segment_at-from.result _ c.from-w.result _ c.segment_at-from.ensures c.from-w.ensures) c.write_rule.ensures.written
