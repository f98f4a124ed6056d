-- ways meets its contract: the splits are the products of two parts of the row.
use mathlib.Core.Path.{ap, ◌∙◌}
use native.Mathlib.Omega.{arith}
use Rattle.tree_laws.specs.Chart.{cap}
use Rattle.counts.proofs.Laws.{parts_all, few-cells}
use Rattle.counts.proofs.ways.Goals as goal

pub overflow_mul-whole : goal.overflow_mul-whole
overflow_mul-whole c = omega (arith, few-cells c.args.home c.args.m c.requires.home c.requires.small)

pub overflow_add-whole : goal.overflow_add-whole
overflow_add-whole c = omega (arith, few-cells c.args.home c.args.m c.requires.home c.requires.small)

pub overflow_mul-rest : goal.overflow_mul-rest
overflow_mul-rest c = omega (arith, few-cells c.args.after c.args.m c.requires.state c.requires.small)

pub overflow_add-rest : goal.overflow_add-rest
overflow_add-rest c = omega (arith, few-cells c.args.after c.args.m c.requires.state c.requires.small)

pub returns : goal.returns
returns c = let a = c.args in
    c.products.ensures ∙ ap cap (parts_all a.row.now a.m a.home a.after a.i a.j c.requires.rises c.requires.inside c.requires.home_cells c.requires.state-cells)
