-- search_room meets its contract: the table's refusal stays the answer; the rows are those of the definition's grammar.
use native.Mathlib.Omega.{arith}
use mathlib.Core.Path.{ap, sym, ◌∙◌}
use Prim.Native.Nat.{◌*◌, ◌≤◌}
use Rattle.grammar.specs.Limits.{limits}
use Rattle.grammar.specs.Refusal.{done}
use Rattle.grammar.proofs.Answers.{then-goes, then_stops}
use Rattle.automaton.specs.CallerMoves.{moves_with}
use Rattle.plans.proofs.PlanLaws.{square-of}
use Rattle.plans.proofs.PlannedLaws.{verified_of}
use Rattle.rooms.specs.Room.{room_of, search_room, room_told}
use Rattle.rooms.proofs.CountLaws.{room_is}
use Rattle.rooms.proofs.search_room.Goals as goal
use Rattle.rooms.proofs.search_room.Lts as lts
use Rattle.rooms.proofs.search_room.Reads as reads
use Rattle.rooms.proofs.search_room.Tie as tie

abbrev Place-After-prepare : Type 0
Place-After-prepare = lts.After-prepare tie.the-claims reads.Pre reads.Post

-- Q² is small
square-small : (c : Place-After-prepare) → c.prepare-w.result.states * c.prepare-w.result.states ≤ limits.max_states * limits.max_states
square-small c = let s = c.prepare-w.ensures.sized in (square-of c.prepare-w.result.states s.least s.most).1

pub returns-in-Refused : goal.returns-in-Refused
unfolding search_room
returns-in-Refused c = ap room_told (sym (then_stops _ (λ G. done (room_of (moves_with limits G c.args.callers))) c.in-Refused.cause c.in-Refused.at
    (c.prepare-w.ensures.refused_as c.in-Refused.cause c.in-Refused.at c.in-Refused.is)))

pub overflow_mul-entries : goal.overflow_mul-entries
overflow_mul-entries c = omega (arith, square-small c.before.before)

pub overflow_mul-entries-in-Passed : goal.overflow_mul-entries-in-Passed
overflow_mul-entries-in-Passed c = omega (arith, square-small c.before.before)

pub overflow_add-certificate : goal.overflow_add-certificate
overflow_add-certificate c = omega (arith, square-small c.before.before)

pub count_moves-moves-requires : goal.count_moves-moves-requires
count_moves-moves-requires c = let p = c.prepare-w.ensures.passed_as c.in-Passed.is in
    let r = p.2 in
    (verified_of (moves_with limits p.0 c.args.callers) r.regular _ _ _ r.size _ r.shows (omega (arith, r.long))).fits

pub returns-in-Passed : goal.returns-in-Passed
unfolding search_room
returns-in-Passed c = let p = c.prepare-w.ensures.passed_as c.in-Passed.is in
    let r = p.2 in
    room_is (moves_with limits p.0 c.args.callers) r.regular _ _ _ r.size _ r.shows (omega (arith, r.long)) c.count_moves-moves.result c.count_moves-moves.ensures
    ∙ ap room_told (sym (then-goes _ (λ G. done (room_of (moves_with limits G c.args.callers))) p.0 p.1))
