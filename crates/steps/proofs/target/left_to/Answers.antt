-- left_to meets its contract: the move is that of its contract.
use mathlib.Core.Path.{ap, ◌∙◌}
use Rattle.triples.specs.Records.{step}
use Rattle.triples.specs.declared.Move.{Move}
use Rattle.triples.specs.declared.Move.TheVariants.{Still}
use Rattle.steps.specs.Plan.{move_of}
use Rattle.steps.proofs.target.left_to.Goals as goal

pub returns : goal.returns
returns c = let a = c.args in
    ap (λ (m : Move). step a.s.layer a.u a.s.right m Still)
    (c.move_of-on_left.ensures ∙ ap (move_of a.number.now a.s.left_closes a.s.left) c.from.ensures)
