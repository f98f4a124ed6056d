-- nth_rows meets its contract: the two segments of targets and the two ends.
use mathlib.Core.Path.{ap, ◌∙◌}
use Rattle.steps.specs.Steps.{record_answer}
use Rattle.steps.proofs.Layers.{part_low, rows-read}
use Rattle.steps.proofs.rows.nth_rows.Goals as goal

pub nth_layer-requires : goal.nth_layer-requires
nth_layer-requires c = let a = c.args in record { both = c.requires.both; low = part_low a.member.now a.first.now a.targets.now a.p c.begin_of-a.result c.end_of-b.result c.requires.laid c.begin_of-a.ensures c.end_of-b.ensures; low_2 = part_low a.member.now a.first.now a.targets.now a.q c.begin_of-c.result c.end_of-d.result c.requires.laid_2 c.begin_of-c.ensures c.end_of-d.ensures }

pub returns : goal.returns
returns c = let a = c.args in
    c.nth_layer.ensures ∙ ap record_answer (rows-read a.ahead.now a.number.now a.member.now a.first.now a.after.now a.targets.now a.t a.m a.f a.p a.q a.k
    c.ends_at-lc.result c.ends_at-rc.result c.begin_of-a.result c.end_of-b.result c.begin_of-c.result c.end_of-d.result
    c.ends_at-lc.ensures c.ends_at-rc.ensures c.begin_of-a.ensures c.end_of-b.ensures c.begin_of-c.ensures c.end_of-d.ensures)
