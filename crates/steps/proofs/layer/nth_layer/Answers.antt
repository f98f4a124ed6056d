-- nth_layer meets its contract: one of the two layers, or none.
use mathlib.Core.Path.{ap, ◌∙◌}
use Rattle.steps.specs.Steps.{record_answer}
use Rattle.steps.proofs.Layers.{layer-zero, layer-one, layer-none}
use Rattle.steps.proofs.layer.nth_layer.Goals as goal

pub returns-then-layer-eq0 : goal.returns-then-layer-eq0
returns-then-layer-eq0 c = let a = c.args in c.nth_zero.ensures ∙ ap record_answer (layer-zero a.number.now a.after.now a.t a.x a.y a.p a.q a.ls.now a.rs.now a.k a.lc a.rc a.layer c.if-layer-eq0.true)

pub returns-then-layer-eq1 : goal.returns-then-layer-eq1
returns-then-layer-eq1 c = let a = c.args in c.nth_one.ensures ∙ ap record_answer (layer-one a.number.now a.after.now a.t a.x a.y a.p a.q a.ls.now a.rs.now a.k a.lc a.rc a.layer c.if-layer-eq1.true)

pub returns : goal.returns
returns c = let a = c.args in layer-none a.number.now a.after.now a.t a.x a.y a.p a.q a.ls.now a.rs.now a.k a.lc a.rc a.layer c.if-layer-eq0.false c.if-layer-eq1.false
