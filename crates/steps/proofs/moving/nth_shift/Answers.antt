-- nth_shift meets its contract: the shift itself, or what follows it.
use mathlib.Core.Path.{ap, ◌∙◌}
use Rattle.triples.specs.declared.Step.{Step}
use Rattle.steps.specs.declared.StepAnswer.TheVariants.{Record}
use Rattle.steps.specs.Steps.{record_answer}
use Rattle.steps.proofs.Nth.{shift_first, shift_later}
use Rattle.steps.proofs.moving.nth_shift.Goals as goal

pub returns-then-k-eq0 : goal.returns-then-k-eq0
returns-then-k-eq0 c = let a = c.args in
    ap (λ (s : Step). Record s) c.shift_of.ensures
    ∙ ap record_answer (shift_first a.number.now a.after.now a.ls.now a.s a.x a.k c.if-k-eq0.true)

pub returns : goal.returns
returns c = let a = c.args in
    c.nth_above.ensures
    ∙ ap record_answer (shift_later a.number.now a.after.now a.ls.now a.s a.x a.k c.past_of.result c.past_of.ensures c.if-k-eq0.false)
