-- `text_read::declaring::many` meets its contract: the cause by whether a name stands twice. Assumes nothing.
use mathlib.Core.Path.{ap, sym, ◌∙◌}
use Rattle.grammar.specs.Basics.{choose}
use Rattle.grammar.specs.Refusal.{name_repeated, out_of_range}
use Rattle.text_read.proofs.declaring.many.Goals as goal

pub has_double-requires : goal.has_double-requires
has_double-requires c = c.requires

pub returns-then-has_double : goal.returns-then-has_double
returns-then-has_double c = sym (ap (λ b. choose b name_repeated out_of_range) (sym c.has_double.ensures ∙ c.if-has_double.true))

pub returns : goal.returns
returns c = sym (ap (λ b. choose b name_repeated out_of_range) (sym c.has_double.ensures ∙ c.if-has_double.false))
