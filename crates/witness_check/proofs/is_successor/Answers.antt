-- is_successor meets its contract: the triples of both indices are tested.
use mathlib.Core.Path.{ap, ◌∙◌}
use Rattle.witness_check.specs.StepTest.{is_step}
use Rattle.witness_check.specs.Clauses.{triple_of}
use Rattle.witness_check.specs.declared.Triple.{Triple}
use Rattle.witness_check.proofs.is_successor.Goals as goal

pub returns : goal.returns
returns c = let a = c.args in
    c.is_step.ensures
    ∙ ap (λ (x : Triple). is_step a.ahead.now a.after.now a.number.now a.member.now a.target.now a.t a.m x.layer x.left x.right c.triple_at-to.result.layer c.triple_at-to.result.left c.triple_at-to.result.right) c.triple_at-from.ensures
    ∙ ap (λ (y : Triple). is_step a.ahead.now a.after.now a.number.now a.member.now a.target.now a.t a.m (triple_of a.q a.i).layer (triple_of a.q a.i).left (triple_of a.q a.i).right y.layer y.left y.right) c.triple_at-to.ensures
