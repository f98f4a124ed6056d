-- Byte tables carried over: what the search, the certificate check, both witness checks and the room told beforehand
-- answered under document 01's limits, where a symbol was one byte, they answer under the limits in force, for the same t
-- and n and the table with its nonterminal codes moved up, without callers (`zero-check` in specs/Callers.antt). What was
-- promised under document 01's limits are the definitions of the promises at `byte_limits`.
-- Source: document 02, [8].
-- Assumes nothing.
use Rattle.std.specs.Prelude.{ℕ, ◌+◌, ◌≡◌, List, map, ◌↔◌, ltb}
use Rattle.grammar.specs.Basics.{choose}
use Rattle.grammar.specs.Limits.{byte_limits, limits}
use Rattle.grammar.specs.Grammar.{Grammar}
use Rattle.automaton.specs.Strings.{Potential}
use Rattle.automaton.specs.Position.{position}
use Rattle.triples.specs.Certificate.{check_certificate}
use Rattle.triples.specs.Witness.{check_witness, check_witness_records}
use Rattle.triples.specs.Verdict.{check_verdict, CertificateAnswer, WitnessAnswer}
use Rattle.triples.specs.declared.CheckVerdict.{CheckVerdict}
use Rattle.witness_records.specs.Records.{triples, RecordsAnswer}
use Rattle.witness_records.specs.declared.TripleRecord.{TripleRecord}
use Rattle.search.specs.Promise.{Lent, SearchesAt, Searches}
use Rattle.search.specs.declared.SearchVerdict.{SearchVerdict}
use Rattle.rooms.specs.Room.{search_room, room_told, RoomAnswer}
use Rattle.rooms.specs.declared.SearchRoom.{SearchRoom}
use Rattle.carried.specs.Carried.{carried_table, carried_grammar, Same}

-- codes from 128 on move up by 32,640, as in the carried table of crate carried
abbrev pub wide_table : List ℕ → List ℕ
wide_table table = map (λ x. choose (ltb x 128) x (x + 32640)) table

pub record CarriedTheorems (t n : ℕ) (table : List ℕ) (G : Grammar) : Type 0 where
  pub shifted : carried_table byte_limits limits table ≡ wide_table table
  -- the carried table passes; states, live rules, moves, verdict, smallest set, shortest witness and what is looked at are the same
  pub same : Same byte_limits limits t n table G
  -- two strings part as they did
  pub parting : Potential (position byte_limits G) ↔ Potential (position limits (carried_grammar byte_limits limits G))
  -- the search answers and leaves what is lent as it did, and in no other way
  pub searches : (before : Lent) (r : SearchVerdict) (after : Lent)
      → SearchesAt byte_limits t n table 0 before r after ↔ Searches t n (wide_table table) 0 before r after
  -- every row of bytes, of indices and of records is answered as it was
  pub certificates : (bytes : List ℕ) (v : CheckVerdict)
      → (v ≡ check_verdict (check_certificate byte_limits t n table 0 bytes)) ↔ CertificateAnswer t n (wide_table table) 0 bytes v
  pub witnesses : (row : List ℕ) (v : CheckVerdict)
      → (v ≡ check_verdict (check_witness byte_limits t n table 0 row)) ↔ WitnessAnswer t n (wide_table table) 0 row v
  pub records : (entries : List TripleRecord) (v : CheckVerdict)
      → (v ≡ check_verdict (check_witness_records byte_limits t n table 0 (triples entries))) ↔ RecordsAnswer t n (wide_table table) 0 entries v
  -- the room of the search is told as it was
  pub rooms : (r : SearchRoom) → (r ≡ room_told (search_room byte_limits t n table 0)) ↔ RoomAnswer t n (wide_table table) 0 r
