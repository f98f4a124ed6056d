-- right_to meets its contract: the move is that of its contract.
use mathlib.Core.Path.{ap, ◌∙◌}
use Rattle.triples.specs.Records.{step}
use Rattle.triples.specs.declared.Move.{Move}
use Rattle.triples.specs.declared.Move.TheVariants.{Still}
use Rattle.steps.specs.Plan.{move_of}
use Rattle.steps.proofs.target.right_to.Goals as goal

pub returns : goal.returns
returns c = let a = c.args in
    ap (λ (m : Move). step a.s.layer a.s.left a.v Still m)
    (c.move_of-on_right.ensures ∙ ap (move_of a.number.now a.s.right_closes a.s.right) c.from.ensures)
