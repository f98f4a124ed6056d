-- Byte tables are answered as they were, once carried over: both sides come to the same moves. Assumes nothing.
use Prim.Native.Nat.{ℕ, ◌<◌}
use native.Mathlib.Omega.{arith}
use mathlib.Core.Path.{◌≡◌, refl, ap, ap₂, sym, subst₂, ◌∙◌}
use mathlib.Core.List.{List, map}
use mathlib.Core.Logic.{◌↔◌}
use Rattle.grammar.specs.Basics.{Mem}
use Rattle.grammar.specs.Limits.{Limits, byte_limits, limits}
use Rattle.grammar.specs.Grammar.{Grammar, WellFormed}
use Rattle.grammar.specs.Refusal.{Answer, done, and_then}
use Rattle.grammar.specs.TableCheck.{check_table}
use Rattle.grammar.proofs.Answers.{then-goes}
use Rattle.grammar.proofs.WellFormed.{room}
use Rattle.grammar.proofs.Sentence.{passes_exactly}
use Rattle.automaton.specs.Items.{states}
use Rattle.automaton.specs.Strings.{Potential}
use Rattle.automaton.specs.Position.{position}
use Rattle.automaton.specs.PositionMoves.{moves_of}
use Rattle.automaton.specs.Callers.{check_with}
use Rattle.triples.specs.Index.{index, triple_count}
use Rattle.triples.specs.Smallest.{smallest}
use Rattle.triples.specs.Certificate.{byte_count, check_bytes, check_certificate}
use Rattle.triples.specs.Witness.{entry_of, check_row, check_witness, check_witness_records}
use Rattle.triples.specs.Verdict.{check_verdict}
use Rattle.triple_laws.proofs.Laws.{end-of}
use Rattle.triple_laws.proofs.Position.{position-listed, position-regular}
use Rattle.triple_laws.proofs.CallerChecks.{zero-check}
use Rattle.parting.proofs.Position.{potential-reached}
use Rattle.witness_records.specs.Records.{triples}
use Rattle.rooms.specs.Room.{Room, room_of, search_room, room_told}
use Rattle.carried.specs.Carried.{moved, carried_table, carried_grammar, Same}
use Rattle.carried.proofs.Bytes.{bytes_wider, bytes_carried}
use Rattle.carried.proofs.Searches.{searches_carried}
use Rattle.ambiguity.specs.Carried.{wide_table, CarriedTheorems}
use Rattle.ambiguity.proofs.Entries.{stores}

-- an answer that is one thing is the other
alike : {A : Type 0} {a b : A} (v : A) → b ≡ a → (v ≡ a) ↔ (v ≡ b)
alike v e = (λ h. h ∙ sym e, λ h. h ∙ e)

-- the room of a search, by Q and M
abbrev room_with : ℕ → ℕ → Answer Room
room_with q m = done (record { states = q; certificate = byte_count q; entries = triple_count q; moves = m })

-- the carried table, by its figures
moved_by : (table : List ℕ) → carried_table byte_limits limits table ≡ wide_table table
unfolding moved
moved_by table = refl

module _ (t n : ℕ) (table : List ℕ) (G : Grammar) (e : check_table byte_limits t n table ≡ done G) where
  abbrev wide : Grammar
  wide = carried_grammar byte_limits limits G

  s : Same byte_limits limits t n table G
  s = bytes_carried t n table G e

  -- what follows the refusals up to 8 on both sides: without callers these are the table check's
  both : {A : Type 0} (go here : Grammar → Answer A) → here wide ≡ go G
      → and_then (check_with limits t n (carried_table byte_limits limits table) 0) here ≡ and_then (check_with byte_limits t n table 0) go
  both go here h =
      then-goes (check_with limits t n (carried_table byte_limits limits table) 0) here wide
      (zero-check limits room t n (carried_table byte_limits limits table) ∙ s.passes)
      ∙ h
      ∙ sym (then-goes (check_with byte_limits t n table 0) go G (zero-check byte_limits (omega arith) t n table ∙ e))

  certificate-same : (bytes : List ℕ)
      → check_certificate limits t n (carried_table byte_limits limits table) 0 bytes ≡ check_certificate byte_limits t n table 0 bytes
  unfolding check_certificate
  certificate-same bytes = both (λ G. check_bytes (moves_of byte_limits G) bytes) (λ G. check_bytes (moves_of limits G) bytes) (s.certificates bytes)

  witness_same : (row : List ℕ)
      → check_witness limits t n (carried_table byte_limits limits table) 0 row ≡ check_witness byte_limits t n table 0 row
  unfolding check_witness
  witness_same row = both (λ G. check_row (moves_of byte_limits G) row) (λ G. check_row (moves_of limits G) row) (s.witnesses row)

  records-same : (entries : List (ℕ × ℕ × ℕ))
      → check_witness_records limits t n (carried_table byte_limits limits table) 0 entries ≡ check_witness_records byte_limits t n table 0 entries
  unfolding check_witness_records
  records-same entries =
      both (λ G. check_row (moves_of byte_limits G) (map (entry_of (states G)) entries)) (λ G. check_row (moves_of limits G) (map (entry_of (states G)) entries))
      (s.witnesses (map (entry_of (states wide)) entries)
      ∙ ap (λ (q : ℕ). check_row (moves_of byte_limits G) (map (entry_of q) entries)) s.states)

  room-same : search_room limits t n (carried_table byte_limits limits table) 0 ≡ search_room byte_limits t n table 0
  unfolding search_room
  room-same =
      both (λ G. done (room_of (moves_of byte_limits G))) (λ G. done (room_of (moves_of limits G)))
      (ap₂ room_with s.states s.moves)

  -- where (1,1,1) stands in the smallest set
  ends : (L : Limits) (G : Grammar) → WellFormed L G → L.max_terminals < L.nonterminal_base → Potential (position L G) ↔ Mem (index (states G) 1 1 1) (smallest (moves_of L G))
  ends L G W room =
      let a = potential-reached L G W room in
      let b = end-of (position L G) (moves_of L G) (position-regular L G W room) (position-listed L G W room) in
      (λ p. b.0 (a.0 p), λ m. a.1 (b.1 m))

  parting_same : Potential (position byte_limits G) ↔ Potential (position limits wide)
  parting_same =
      let old = ends byte_limits G ((passes_exactly byte_limits (omega arith) (omega arith) t n table G).0 e).0.well_formed (omega arith) in
      let new = ends limits wide (stores t n (carried_table byte_limits limits table) wide s.passes).is_table.well_formed (omega arith) in (
        λ p. new.1 (subst₂ (λ (k : ℕ) (l : List ℕ). Mem (index k 1 1 1) l) (sym s.states) (sym s.smallest) (old.0 p)),
        λ p. old.1 (subst₂ (λ (k : ℕ) (l : List ℕ). Mem (index k 1 1 1) l) s.states s.smallest (new.0 p)),
      )

  pub carried_theorems : CarriedTheorems t n table G
  unfolding moved
  carried_theorems = record {
    shifted = moved_by table;
    same = s;
    parting = parting_same;
    searches = searches_carried byte_limits limits bytes_wider t n table G e;
    certificates = λ bytes v. alike v (ap check_verdict (certificate-same bytes));
    witnesses = λ row v. alike v (ap check_verdict (witness_same row));
    records = λ entries v. alike v (ap check_verdict (records-same (triples entries)));
    rooms = λ r. alike r (ap room_told room-same);
  }
