-- What a search is to be lent, told from the tables alone.
-- Source: document 02, [5] ("Q, the certificate's bytes, the entries of each row, and the number M of moves in the automaton"),
-- [11] ("the figures told beforehand take m too"). Assumes nothing.
use Rattle.std.specs.Prelude.{ℕ, ◌≡◌, List}
use Rattle.grammar.specs.Limits.{Limits, limits}
use Rattle.grammar.specs.Refusal.{Answer, done, refused, and_then}
use Rattle.automaton.specs.Moves.{Moves}
use Rattle.automaton.specs.AllMoves.{move_count}
use Rattle.automaton.specs.Callers.{check_with}
use Rattle.automaton.specs.CallerMoves.{moves_with}
use Rattle.triples.specs.Index.{triple_count}
use Rattle.triples.specs.Certificate.{byte_count}
use Rattle.rooms.specs.declared.SearchRoom.{SearchRoom}
use Rattle.rooms.specs.declared.SearchRoom.TheVariants as told

-- Q, the bytes of the certificate, the entries of each row, and M
pub record Room : Type 0 where
  pub states : ℕ
  pub certificate : ℕ
  pub entries : ℕ
  pub moves : ℕ

-- the room of a search over these moves
abbrev pub room_of : Moves → Room
room_of M = record { states = M.states; certificate = byte_count M.states; entries = triple_count M.states; moves = move_count M }

-- the room of a search with m callers, or the first refusal up to [11]'s 8
unfoldable pub search_room : Limits → ℕ → ℕ → List ℕ → ℕ → Answer Room
search_room L t n table m = and_then (check_with L t n table m) (λ G. done (room_of (moves_with L G m)))

-- the answer as the code gives it
abbrev pub room_told : Answer Room → SearchRoom
room_told (done r) = told.Room r.states r.certificate r.entries r.moves
room_told (refused cause at) = told.Refused cause at

-- what search_room promises of its answer
abbrev pub RoomAnswer : ℕ → ℕ → List ℕ → ℕ → SearchRoom → Type 0
RoomAnswer t n table m r = r ≡ room_told (search_room limits t n table m)
