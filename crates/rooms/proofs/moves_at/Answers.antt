-- moves_at meets its contract: each return is one case of the definition.
use native.Mathlib.Omega.{arith}
use mathlib.Core.Path.{sym}
use Rattle.plans.proofs.PlanLaws.{span_le}
use Rattle.rooms.proofs.CountLaws.{moves-without, moves_with_lem}
use Rattle.rooms.proofs.moves_at.Goals as goal

pub returns-then-ahead-p-lt1 : goal.returns-then-ahead-p-lt1
returns-then-ahead-p-lt1 c = let a = c.args in (
  sym (moves-without a.ahead.now a.member.now a.first.now a.p c.side_of-side.result c.side_of-side.ensures c.if-ahead-p-lt1.true),
  omega (arith, span_le a.member.now a.first.now a.p c.side_of-side.result c.requires c.side_of-side.ensures),
)

pub overflow_add-result : goal.overflow_add-result
overflow_add-result c = let a = c.args in
    omega (arith, span_le a.member.now a.first.now a.p c.side_of-side.result c.requires c.side_of-side.ensures)

pub returns : goal.returns
returns c = let a = c.args in (
  sym (moves_with_lem a.ahead.now a.member.now a.first.now a.p c.side_of-side.result c.side_of-side.ensures c.if-ahead-p-lt1.false),
  omega (arith, span_le a.member.now a.first.now a.p c.side_of-side.result c.requires c.side_of-side.ensures),
)
