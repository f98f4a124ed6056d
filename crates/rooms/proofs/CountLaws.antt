-- The number of moves off the rows, and the room told of it. Assumes nothing.
use Prim.Native.Nat.{ℕ, ◌+◌, ◌≤◌, ◌<◌}
use mathlib.Core.Path.{◌≡◌, ap, ap₂, sym, ◌∙◌}
use mathlib.Core.List.{List}
use native.Mathlib.Omega.{arith}
use lib.ListN.{length, get_or}
use borrow.Author.Tests.{le-leb, lt-leb}
use Rattle.grammar.specs.Limits.{limits}
use Rattle.grammar.specs.Refusal.{done}
use Rattle.automaton.specs.Moves.{Moves, Regular}
use Rattle.automaton.specs.AllMoves.{move_count}
use Rattle.triples.specs.Index.{triple_count}
use Rattle.triples.specs.Certificate.{byte_count}
use Rattle.figures.specs.Sum.{sum}
use Rattle.figures.proofs.Lengths.{one, out, move_count_lem}
use Rattle.figures.proofs.Sums.{sum_same}
use Rattle.moves.specs.Tables.{Tables}
use Rattle.moves.specs.Shows.{Shows}
use Rattle.plans.specs.declared.Side.{Side}
use Rattle.plans.specs.Plan.{side_of}
use Rattle.plans.proofs.Counted.{moves-counted}
use Rattle.rooms.specs.declared.SearchRoom.TheVariants as told
use Rattle.rooms.specs.Clauses.{moves_at}
use Rattle.rooms.specs.Room.{room_of, room_told}

-- the moves of a state without a symbol ahead, and with one
module _ (ahead member first : List ℕ) (p : ℕ) (x : Side) (e : x ≡ side_of member first p) where
  pub moves-without : get_or ahead p 0 < 1 → moves_at ahead member first p ≡ x.span
  moves-without h = omega (arith, ap (λ (s : Side). s.span) e, ap one (lt-leb 1 (get_or ahead p 0) h))

  pub moves_with_lem : 1 ≤ get_or ahead p 0 → moves_at ahead member first p ≡ x.span + 1
  moves_with_lem h = omega (arith, ap (λ (s : Side). s.span) e, ap one (le-leb 1 (get_or ahead p 0) h))

module _ (M : Moves) (S : Regular M) (t m Q : ℕ) (size : Q ≡ M.states) (new : Tables) (X : Shows M t m new)
    (long : limits.max_states ≤ length new.targets) where
  -- the sum over the rows is M
  count_is : sum (moves_at new.ahead new.member new.first) Q ≡ move_count M
  count_is =
      let at = moves_at new.ahead new.member new.first in
      ap (sum at) size ∙ sum_same at (out M) M.states (λ p h. sym (moves-counted M S t m new X long p h)) ∙ sym (move_count_lem M)

  -- so the room is that of the automaton
  pub room_is : (c : ℕ) → c ≡ sum (moves_at new.ahead new.member new.first) Q
      → told.Room Q (byte_count Q) (triple_count Q) c ≡ room_told (done (room_of M))
  room_is c e = ap₂ (λ (q m : ℕ). told.Room q (byte_count q) (triple_count q) m) size (e ∙ count_is)
