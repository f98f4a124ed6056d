-- refuse meets its contract: the record beside a refusal is the blank one.
use mathlib.Core.Path.{ap}
use Rattle.grammar.specs.declared.CheckedGrammar.{CheckedGrammar}
use Rattle.grammar.specs.declared.TableVerdict.TheVariants.{Refused}
use Rattle.table_check.proofs.refuse.Goals as goal

pub returns : goal.returns
returns c = ap (λ (g : CheckedGrammar). record { verdict = Refused c.args.cause c.args.at; grammar = g }) c.without_rules-none.ensures
