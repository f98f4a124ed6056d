-- `joining::join_texts` meets its contract: a refusal leaves the table as it was; else the front of the row is copied. Assumes nothing.
use Rattle.std.proofs.Common.{length, ap, sym, ◌∙◌, arith}
use Rattle.text_read.proofs.Rows.{copied}
use Rattle.joining.proofs.Rooms.{rows_both}
use Rattle.joining.proofs.Lent.{told-refused, told-joined, join-refused, join-short, join_written}
use Rattle.joining.proofs.join_texts.Goals as goal

pub join_kept-requires : goal.join_kept-requires
join_kept-requires c = rows_both c.args.robot.now c.args.addon.now

pub returns-then-table-entries : goal.returns-then-table-entries
returns-then-table-entries c =
    join-short c.args.robot.now c.args.addon.now c.args.table.now _ _ _ _ _ _ _ c.in-Joined.sizes c.in-Joined.entries c.in-Joined.states
    (told-joined c.args.robot.now c.args.addon.now _ _ _ _ _ _ _ c.join_kept.result c.in-Joined.sizes c.in-Joined.entries c.in-Joined.states c.in-Joined.is c.join_kept.ensures)
    (omega (arith, c.if-table-entries.true))

pub returns-in-Refused : goal.returns-in-Refused
returns-in-Refused c =
    join-refused c.args.robot.now c.args.addon.now c.args.table.now c.in-Refused.cause c.in-Refused.at
    (told-refused c.args.robot.now c.args.addon.now _ _ _ _ _ _ _ c.join_kept.result c.in-Refused.cause c.in-Refused.at c.in-Refused.is c.join_kept.ensures)

pub returns-else-table-entries : goal.returns-else-table-entries
returns-else-table-entries c =
    let h = told-joined c.args.robot.now c.args.addon.now _ _ _ _ _ _ _ c.join_kept.result c.in-Joined.sizes c.in-Joined.entries c.in-Joined.states c.in-Joined.is c.join_kept.ensures in
    join_written c.args.robot.now c.args.addon.now c.args.table.now _ _ _ _ _ _ _ c.in-Joined.sizes c.in-Joined.entries c.in-Joined.states h (omega (arith, c.if-table-entries.false)) _
    (copied _ _ c.args.table.now c.in-Joined.entries c.copy.ensures (h.entries ∙ sym (ap length h.table-front)))
