-- `text_read::keeping::module_tests` meets its contract: a fault stays as it is. Assumes nothing.
use mathlib.Core.Path.{sym, ap, subst, ◌∙◌}
use Rattle.text_read.specs.declared.TextKept.{TextKept}
use Rattle.text_read.specs.Texts.{KeptWithin, module_read}
use Rattle.text_read.proofs.keeping.module_tests.Goals as goal

pub rule_tests-requires : goal.rule_tests-requires
rule_tests-requires c = subst (λ (k : TextKept). KeptWithin k c.args.row.now) c.in-Rules.is c.requires

pub returns-in-Fault : goal.returns-in-Fault
returns-in-Fault c = sym (ap (λ (k : TextKept). module_read k c.args.row.now) c.in-Fault.is)

pub returns-in-Rules : goal.returns-in-Rules
returns-in-Rules c = c.rule_tests.ensures ∙ sym (ap (λ (k : TextKept). module_read k c.args.row.now) c.in-Rules.is)
