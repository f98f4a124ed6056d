-- write_item meets its contract: a turn writes one entry of each row.
use Prim.Native.Nat.{ℕ, ◌+◌}
use mathlib.Core.Path.{◌≡◌, refl, ap, ◌∙◌}
use native.Mathlib.Omega.{arith}
use lib.ListN.{get_or}
use Rattle.caller_rule.specs.RuleRows.{member_class, target_class}
use Rattle.caller_rule.proofs.WroteLaws.{wrote-next}
use Rattle.std.specs.Option.{is_none, unwrap_or}
use Rattle.caller_rule.proofs.write_item.Goals as goal

pub loop-r-preserved : goal.loop-r-preserved
loop-r-preserved c =
    let a = c.args in
    let l = c.loop-r in
    let i = l.invariant in
    let room = c.requires.wide in
    let k : get_or a.ranks.now c.from.result 0 ≡ get_or a.ranks.now (get_or a.callers.now l.r 0) 0 = ap (λ (n : ℕ). get_or a.ranks.now n 0) c.from.ensures in
    record {
      ahead = wrote-next a.rows.now.ahead.now l.ahead a.at l.r _ _ i.ahead (omega (arith, room.ahead)) c.unwrap_or-code.ensures;
      number = wrote-next a.rows.now.number.now l.number a.at l.r _ _ i.number (omega (arith, room.number)) refl;
      member = wrote-next a.rows.now.member.now l.member a.at l.r _ _ i.member (omega (arith, room.member))
          (c.member_class.ensures ∙ ap (λ (n : ℕ). member_class (is_none a.x) (unwrap_or a.x 0) a.kinds (get_or a.callers.now l.r 0) (a.low + n)) k);
      target = wrote-next a.rows.now.target.now l.target a.at l.r _ _ i.target (omega (arith, room.target))
          (c.target_class.ensures ∙ ap (λ (n : ℕ). target_class (is_none a.y) (unwrap_or a.y 0) a.kinds (get_or a.callers.now l.r 0) (a.behind + n)) k);
      after = wrote-next a.rows.now.after.now l.after a.at l.r _ _ i.after (omega (arith, room.after)) refl;
      down = wrote-next a.rows.now.down.now l.down a.at l.r _ _ i.down (omega (arith, room.down)) (ap (λ (n : ℕ). a.low + n) k);
    }
