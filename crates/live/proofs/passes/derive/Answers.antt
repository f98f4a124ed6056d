-- derive meets its contract: a rule that waits is left alone.
use mathlib.Core.Path.{sym, ◌∙◌}
use Rattle.live.proofs.MarkLaws.{derive_marks}
use Rattle.live.proofs.passes.derive.Goals as goal

pub returns : goal.returns
returns c = derive_marks c.args.left c.args.codes.now c.args.marks.now _ _ c.requires.left_bound
    (sym c.all_marked.ensures ∙ c.if-not-all_marked.false) c.mark.ensures.marks_after c.mark.ensures.value
