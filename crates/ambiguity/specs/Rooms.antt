-- What follows from the promises of the room told beforehand, whatever the input. Source: document 02, [5], [6] and [11].
-- Assumes nothing.
use Rattle.std.specs.Prelude.{ℕ, ◌+◌, ◌*◌, ◌≤◌, ◌<◌, ◌≡◌, List, ◌⊎◌, length}
use Rattle.grammar.specs.Limits.{limits}
use Rattle.grammar.specs.Grammar.{Grammar}
use Rattle.grammar.specs.Refusal.{buffer_too_short}
use Rattle.grammar.specs.declared.TableChecked.{TableChecked}
use Rattle.grammar.specs.declared.TableVerdict.TheVariants.{Refused}
use Rattle.grammar.specs.TableCheck.{TableAnswer}
use Rattle.grammar.specs.declared.Cause.{Cause}
use Rattle.automaton.specs.AllMoves.{MoveOf, ListsMoves}
use Rattle.automaton.specs.Callers.{callers}
use Rattle.triples.specs.Index.{triple_count}
use Rattle.triples.specs.Certificate.{byte_count}
use Rattle.search.specs.Promise.{Lent, Searches}
use Rattle.search.specs.declared.SearchVerdict.{SearchVerdict}
use Rattle.search.specs.declared.SearchVerdict.TheVariants as search
use Rattle.rooms.specs.declared.SearchRoom.{SearchRoom}
use Rattle.rooms.specs.declared.SearchRoom.TheVariants as room
use Rattle.text.specs.Promise.{WritesText}
use Rattle.text.specs.declared.TextLength.{TextLength}
use Rattle.text.specs.declared.TextLength.TheVariants as size
use Rattle.text.specs.declared.TextWritten.{TextWritten}
use Rattle.text.specs.declared.TextWritten.TheVariants as writer
use Rattle.ambiguity.specs.Entries.{StoresAt, StopsAt, states_at}

-- at least so many bytes are lent for the certificate and so many entries in each row; less in one of them
abbrev pub LentThat : ℕ → ℕ → Lent → Type 0
LentThat b e l = (b ≤ length l.certificate) × (e ≤ length l.queue) × (e ≤ length l.parents) × (e ≤ length l.witness)

abbrev pub LentLess : ℕ → ℕ → Lent → Type 0
LentLess b e l = (length l.certificate < b) ⊎ ((length l.queue < e) ⊎ ((length l.parents < e) ⊎ (length l.witness < e)))

module _ (t n : ℕ) (table : List ℕ) (m : ℕ) where
  pub record RoomTheorems (r : SearchRoom) : Type 1 where
    -- the refusals up to [11]'s 8; else Q, the bytes that hold 2Q² bits, 2Q², and M
    pub refused : (cause : Cause) (at : ℕ) → StopsAt t n table m cause at → r ≡ room.Refused cause at
    pub told : (G : Grammar) → StoresAt t n table m G
        → (x : ℕ) × (r ≡ room.Room (states_at G m) (byte_count (states_at G m)) (triple_count (states_at G m)) x)
    -- a search lent that much never answers 14
    pub enough : (q b e x : ℕ) → r ≡ room.Room q b e x → (before : Lent) (v : SearchVerdict) (after : Lent) → Searches t n table m before v after
        → LentThat b e before → (at : ℕ) → ¬ (v ≡ search.Refused buffer_too_short at)
    -- one lent less always does, and nothing is changed
    pub short : (q b e x : ℕ) → r ≡ room.Room q b e x → (before : Lent) (v : SearchVerdict) (after : Lent) → Searches t n table m before v after
        → LentLess b e before → (v ≡ search.Refused buffer_too_short 0) × (after ≡ before)
    -- document 02, [6]: what the search then says it looked at is at most M² + 2×Q×M, by these numbers
    pub looked : (q b e x : ℕ) → r ≡ room.Room q b e x → (before : Lent) (v : SearchVerdict) (after : Lent) → Searches t n table m before v after
        → (k l : ℕ) → (v ≡ search.Unambiguous k l) ⊎ (v ≡ search.Potential k l) → l ≤ x * x + 2 * (q * x)
    -- the last number is that of the moves: some list has each of them once, and the number is the length of every such list
    pub listed : (G : Grammar) → StoresAt t n table m G → (l : List (MoveOf (callers limits G m))) × ListsMoves (callers limits G m) l
    pub number : (G : Grammar) → StoresAt t n table m G → (q b e x : ℕ) → r ≡ room.Room q b e x
        → (l : List (MoveOf (callers limits G m))) → ListsMoves (callers limits G m) l → x ≡ length l

module _ (t n : ℕ) (table bytes starts lengths : List ℕ) where
  pub record LengthTheorems (r : TextLength) : Type 0 where
    -- the faults of the table come first, as the table check gives them
    pub table-refused : (c : TableChecked) (cause : Cause) (at : ℕ) → TableAnswer t n table c → c.verdict ≡ Refused cause at → r ≡ size.Refused cause at
    -- the writer's refusals but 14: whatever output is lent, it refuses so, and the output is unchanged
    pub refused : (cause : Cause) (at : ℕ) → r ≡ size.Refused cause at → (out : List ℕ) (v : TextWritten) (out' : List ℕ)
        → WritesText t n table bytes starts lengths out v out' → (v ≡ writer.Refused cause at) × (out' ≡ out)
    -- the writer, lent that many bytes, writes as many
    pub enough : (k : ℕ) → r ≡ size.Bytes k → (out : List ℕ) (v : TextWritten) (out' : List ℕ)
        → WritesText t n table bytes starts lengths out v out' → k ≤ length out → v ≡ writer.Written k
    -- lent fewer it always answers 14, and the output is unchanged
    pub short : (k : ℕ) → r ≡ size.Bytes k → (out : List ℕ) (v : TextWritten) (out' : List ℕ)
        → WritesText t n table bytes starts lengths out v out' → length out < k → (v ≡ writer.Refused buffer_too_short 0) × (out' ≡ out)
    -- it is never told 14
    pub never_14 : (at : ℕ) → ¬ (r ≡ size.Refused buffer_too_short at)
