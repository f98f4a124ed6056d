-- `joining::rules::stands_before` meets its contract: no rule before the cursor is the one looked for. Assumes nothing.
use Rattle.std.proofs.Common.{refl, sym, ◌∙◌, arith}
use Rattle.joining.proofs.Seeking.{seek_start, seek_whole, seek_found, seek_more, seek_end}
use Rattle.joining.proofs.rules.stands_before.Goals as goal

pub loop-o-init : goal.loop-o-init
loop-o-init c = seek_start c.requires

pub bounds-row-o : goal.bounds-row-o
bounds-row-o c = omega (arith, seek_whole c.requires c.loop-o.invariant c.loop-o-test.true, c.requires.inside)

pub same_rule-requires : goal.same_rule-requires
same_rule-requires c = (omega (arith, seek_whole c.requires c.loop-o.invariant c.loop-o-test.true, c.requires.inside), c.requires.whole)

pub returns-then-same_rule : goal.returns-then-same_rule
returns-then-same_rule c = seek_found _ c.requires c.loop-o.invariant c.loop-o-test.true refl (sym c.same_rule.ensures ∙ c.if-same_rule.true)

pub loop-o-preserved : goal.loop-o-preserved
loop-o-preserved c = seek_more _ c.requires c.loop-o.invariant c.loop-o-test.true refl (sym c.same_rule.ensures ∙ c.if-same_rule.false)

pub returns : goal.returns
returns c = seek_end c.requires c.loop-o.invariant c.loop-o-test.false
