-- `text_read::keeping::check_kept` meets its contract: a fault stays as it is. Assumes nothing.
use mathlib.Core.Path.{sym, ap, subst, ◌∙◌}
use Rattle.text_read.specs.declared.TextKept.{TextKept}
use Rattle.text_read.specs.Texts.{KeptWithin, kept_read}
use Rattle.text_read.proofs.keeping.check_kept.Goals as goal

pub last_tests-requires : goal.last_tests-requires
last_tests-requires c = subst (λ (k : TextKept). KeptWithin k c.args.row.now) c.in-Rules.is c.requires

pub returns-in-Fault : goal.returns-in-Fault
returns-in-Fault c = sym (ap (λ (k : TextKept). kept_read k c.args.row.now) c.in-Fault.is)

pub returns-in-Rules : goal.returns-in-Rules
returns-in-Rules c = c.last_tests.ensures ∙ sym (ap (λ (k : TextKept). kept_read k c.args.row.now) c.in-Rules.is)
