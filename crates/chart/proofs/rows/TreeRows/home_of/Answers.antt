-- home_of meets its contract: the row is read.
use mathlib.Core.Path.{refl, sym}
use borrow.Author.Tests.{le-leb}
use Rattle.grammar.specs.Limits.{limits}
use Rattle.grammar.specs.Grammar.{start}
use Rattle.chart.specs.Rows.{home_of}
use Rattle.chart.proofs.rows.TreeRows.home_of.Goals as goal

pub returns : goal.returns
unfolding home_of
returns c = sym (simp (le-leb (start limits) c.args.b c.requires.limits_bound) refl)
