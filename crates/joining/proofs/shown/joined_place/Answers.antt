-- `joining::shown::joined_place` meets its contract: nowhere for a refusal, else where the rows say. Assumes nothing.
use Rattle.joining.proofs.Places.{place-refused}
use Rattle.joining.proofs.Rooms.{rows_both}
use Rattle.joining.proofs.shown.joined_place.Goals as goal

pub join_kept-requires : goal.join_kept-requires
join_kept-requires c = let a = c.args in rows_both a.robot.now a.addon.now

pub returns-in-Refused : goal.returns-in-Refused
returns-in-Refused c = let k = c.join_kept in
    let x = place-refused _ _ _ _ _ _ _ _ _ k.result k.ensures c.in-Refused.field-0 c.in-Refused.field-1 c.args.i c.in-Refused.is in
    record { is = x.0; inside = x.1 }
