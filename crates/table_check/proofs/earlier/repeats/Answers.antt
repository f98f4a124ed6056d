-- repeats meets its contract: the earlier rules are compared one by one.
use mathlib.Core.Path.{sym, ◌∙◌}
use Rattle.table_check.proofs.EarlierLaws.{behind_start, behind_here, behind_found, behind_more, behind_end}
use Rattle.table_check.proofs.earlier.repeats.Goals as goal

pub loop-i-init : goal.loop-i-init
loop-i-init c = behind_start c.requires

pub is_repeat-requires : goal.is_repeat-requires
is_repeat-requires c = behind_here c.loop-i.invariant c.loop-i-test.true

pub returns-then-is_repeat : goal.returns-then-is_repeat
returns-then-is_repeat c = let r = c in behind_found r.loop-i.invariant r.loop-i-test.true (sym r.is_repeat.ensures ∙ c.if-is_repeat.true)

pub loop-i-preserved : goal.loop-i-preserved
loop-i-preserved c = let r = c in behind_more r.loop-i.invariant r.loop-i-test.true (sym r.is_repeat.ensures ∙ c.if-is_repeat.false)

pub returns : goal.returns
returns c = behind_end c.loop-i.invariant c.loop-i-test.false
