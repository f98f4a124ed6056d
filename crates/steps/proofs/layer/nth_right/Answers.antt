-- nth_right meets its contract: the target at the place.
use mathlib.Core.Path.{ap, sym, ◌∙◌}
use Rattle.triples.specs.declared.Step.{Step}
use Rattle.steps.specs.declared.StepAnswer.TheVariants.{Record}
use Rattle.steps.specs.Steps.{record_answer}
use Rattle.steps.specs.Plan.{right_to}
use mathlib.Core.List.{[]}
use Rattle.steps.proofs.Nth.{image-at, image-ends}
use Rattle.steps.proofs.layer.nth_right.Goals as goal

pub returns-then-rs-k : goal.returns-then-rs-k
returns-then-rs-k c = let a = c.args in image-ends (right_to a.number.now a.s) a.rs.now a.k c.if-rs-k.true

pub right_to-requires : goal.right_to-requires
right_to-requires c = record { both = c.requires.both; v_lt_max_states = c.requires.low c.args.k c.if-rs-k.false }

pub returns : goal.returns
returns c = let a = c.args in
    ap (λ (s : Step). Record s) c.right_to.ensures
    ∙ ap record_answer (sym (image-at (right_to a.number.now a.s) a.rs.now [] a.k c.if-rs-k.false))
