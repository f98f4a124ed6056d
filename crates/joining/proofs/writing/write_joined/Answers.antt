-- `joining::writing::write_joined` meets its contract: a refusal leaves the output as it was; else the joined text is written. Assumes nothing.
use mathlib.Core.Path.{subst}
use Rattle.joining.specs.Joins.{JoinTold}
use Rattle.joining.specs.declared.Join.{Join}
use Rattle.joining.proofs.Rooms.{rows_both}
use Rattle.joining.proofs.Writes.{joined-refused}
use Rattle.joining.proofs.writing.write_joined.Goals as goal
use Rattle.joining.proofs.writing.write_joined.Lts as lts
use Rattle.joining.proofs.writing.write_joined.Reads as reads
use Rattle.joining.proofs.writing.write_joined.Tie as tie

abbrev Place-After-join_kept : Type 0
Place-After-join_kept = lts.After-join_kept tie.the-claims reads.Pre reads.Post

-- what is told of the join, by its answer
abbrev Told : Place-After-join_kept → Join → Type 0
Told k r =
    let a = k.args in JoinTold a.robot.now a.addon.now k.join_kept.new.row k.join_kept.new.starts k.join_kept.new.lengths k.join_kept.new.firsts k.join_kept.new.sizes k.join_kept.new.terminals k.join_kept.new.nonterminals r

pub join_kept-requires : goal.join_kept-requires
join_kept-requires c = let a = c.args in rows_both a.robot.now a.addon.now

pub returns-in-Refused : goal.returns-in-Refused
returns-in-Refused c = let a = c.args in
    joined-refused a.robot.now a.addon.now a.out.now c.in-Refused.cause c.in-Refused.at
    (subst (Told c.before.before.before.before.before.before.before.before.before.before) c.in-Refused.is c.join_kept.ensures)
