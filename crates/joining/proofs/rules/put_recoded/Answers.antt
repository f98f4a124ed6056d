-- `joining::rules::put_recoded` meets its contract: the codes are put through recode one by one. Assumes nothing.
use Rattle.std.proofs.Common.{ap, ◌∙◌, ◌+◌}
use Rattle.std.proofs.Math.ListN.{set}
use Rattle.grammar.specs.Limits.{limits}
use Rattle.joining.specs.Naming.{recoded}
use Rattle.joining.proofs.Loops.{paste_more}
use Rattle.joining.proofs.rules.put_recoded.Goals as goal

pub loop-i-preserved : goal.loop-i-preserved
loop-i-preserved c = let l = c.loop-i in
    let a = c.args in
    ap (set l.row (a.at + l.i)) c.recode.ensures
    ∙ paste_more (recoded limits a.terminals.now a.nonterminals.now) a.codes.now a.row.now l.row a.at l.i
    c.requires.1 c.loop-i-test.true l.invariant
