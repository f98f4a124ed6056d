-- nth_left meets its contract: the target at the place.
use mathlib.Core.Path.{ap, sym, ◌∙◌}
use Rattle.triples.specs.declared.Step.{Step}
use Rattle.steps.specs.declared.StepAnswer.TheVariants.{Record}
use Rattle.steps.specs.Steps.{record_answer}
use Rattle.steps.specs.Plan.{left_to}
use mathlib.Core.List.{[]}
use Rattle.steps.proofs.Nth.{image-at, image-ends}
use Rattle.steps.proofs.layer.nth_left.Goals as goal

pub returns-then-ls-k : goal.returns-then-ls-k
returns-then-ls-k c = let a = c.args in image-ends (left_to a.number.now a.s) a.ls.now a.k c.if-ls-k.true

pub left_to-requires : goal.left_to-requires
left_to-requires c = record { both = c.requires.both; u_lt_max_states = c.requires.low c.args.k c.if-ls-k.false }

pub returns : goal.returns
returns c = let a = c.args in
    ap (λ (s : Step). Record s) c.left_to.ensures
    ∙ ap record_answer (sym (image-at (left_to a.number.now a.s) a.ls.now [] a.k c.if-ls-k.false))
