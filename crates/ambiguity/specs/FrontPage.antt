-- What holds of the library, whatever the input: theorems over what the public entries promise. A promise is
-- the entry's `ensures`; it determines the answer and all that was lent. Each promise is one definition:
-- specs/Entries.antt says where. specs/Searches.antt, specs/Rooms.antt, specs/Texts.antt, specs/Joins.antt,
-- specs/Reports.antt, specs/Readings.antt, specs/Trees.antt and specs/Drafts.antt have what follows for the search,
-- for room told beforehand, for texts, for two texts that are joined, for the program, for the two lines of a witness,
-- for the trees of one sentence and for a grammar while it is edited, specs/Carried.antt what holds of byte tables
-- carried over, specs/Automata.antt and specs/Callers.antt whose moves the promises compute with, without callers and
-- with them, proofs/FrontPage.antt the value of the record.
-- Source: document 01 and document 02's requests; README.md has the demands. Of demand 1, that a refusal is the
-- first in the documents' order is in the definitions that the promises equal.
-- Assumes nothing.
use Rattle.std.specs.Prelude.{ℕ, ◌+◌, ◌≤◌, ◌<◌, ◌≡◌, List, map, ◌⊎◌, ◌↔◌}
use Rattle.grammar.specs.Basics.{Mem}
use Rattle.grammar.specs.Limits.{byte_limits, limits}
use Rattle.grammar.specs.Grammar.{Grammar, WellFormed}
use Rattle.grammar.specs.Tree.{HasTwoTrees}
use Rattle.grammar.specs.Live.{HasSentence, Live}
use Rattle.grammar.specs.Record.{record_of}
use Rattle.grammar.specs.declared.TableChecked.{TableChecked}
use Rattle.grammar.specs.declared.TableVerdict.TheVariants.{Passed, Refused}
use Rattle.grammar.specs.TableCheck.{check_table, TableAnswer}
use Rattle.automaton.specs.Strings.{Potential, Unambiguous}
use Rattle.automaton.specs.Position.{position_of, every}
use Rattle.automaton.specs.Callers.{callers}
use Rattle.triples.specs.Index.{triple_count}
use Rattle.triples.specs.Certificate.{AcceptableCertificate}
use Rattle.triples.specs.Witness.{Witness}
use Rattle.triples.specs.declared.CheckVerdict.{CheckVerdict}
use Rattle.triples.specs.declared.CheckVerdict.TheVariants as check
use Rattle.triples.specs.declared.Step.{Step}
use Rattle.triples.specs.Verdict.{WitnessAnswer, CertificateAnswer}
use Rattle.witness_records.specs.Records.{InRange, index_of, RecordsAnswer}
use Rattle.witness_records.specs.declared.TripleRecord.{TripleRecord}
use Rattle.steps.specs.declared.StepAnswer.{StepAnswer}
use Rattle.steps.specs.declared.StepAnswer.TheVariants as step
use Rattle.search.specs.Promise.{Lent, Searches}
use Rattle.search.specs.declared.SearchVerdict.{SearchVerdict}
use Rattle.rooms.specs.Room.{RoomAnswer}
use Rattle.rooms.specs.declared.SearchRoom.{SearchRoom}
use Rattle.text.specs.Promise.{LengthAnswer}
use Rattle.text.specs.declared.TextLength.{TextLength}
use Rattle.text.specs.declared.TextRead.{TextRead}
use Rattle.text.specs.declared.TextWritten.{TextWritten}
use Rattle.modules.specs.Shown.{part_of}
use Rattle.modules.specs.Promise.{JoinsTexts, WritesJoined, ShowsPlace, ShowsName}
use Rattle.modules.specs.declared.Place.{Place}
use Rattle.grammar.specs.Refusal.{done, no_sentence}
use Rattle.grammar.specs.declared.Cause.{Cause}
use Rattle.text.specs.Read.{Source}
use Rattle.text.specs.Rules.{check_text}
use Rattle.readings.specs.Promise.{ReadsBack}
use Rattle.readings.specs.declared.ReadBack.{ReadBack}
use Rattle.report.specs.Report.{Reports}
use Rattle.report.specs.declared.Reported.{Reported}
use Rattle.ambiguity.specs.Entries.{Usize, IsTableOf, Stores, StoresAt, StopsAt, states_at, StepAnswers}
use Rattle.triples.specs.Numbers.{StepAt}
use Rattle.ambiguity.specs.Searches.{SearchTheorems}
use Rattle.ambiguity.specs.Texts.{TextTheorems}
use Rattle.ambiguity.specs.Joins.{JoinTheorems, ShownTheorems, JoinedTextTheorems}
use Rattle.ambiguity.specs.Readings.{ReadingTheorems, BackTheorems}
use Rattle.ambiguity.specs.Reports.{ReportTheorems}
use Rattle.ambiguity.specs.Automata.{AutomatonTheorems, IndexTheorems}
use Rattle.ambiguity.specs.Rooms.{RoomTheorems, LengthTheorems}
use Rattle.ambiguity.specs.Callers.{CallerTheorems, AcrossTheorems}
use Rattle.ambiguity.specs.Carried.{CarriedTheorems}
use Rattle.trees.specs.Promise.{FindsTrees, TreesRoomAnswer}
use Rattle.trees.specs.declared.TreesFound.{TreesFound}
use Rattle.trees.specs.declared.TreesRoom.{TreesRoom}
use Rattle.ambiguity.specs.Trees.{TreesTheorems, ListedTheorems, TreesRoomTheorems}
use Rattle.drafts.specs.Draft.{Draft, Edit}
use Rattle.drafts.specs.Row.{draft_in}
use Rattle.drafts.specs.Promise.{BeginsDraft, EditsDraft}
use Rattle.drafts.specs.Reading.{ShowsTable}
use Rattle.drafts.specs.declared.DraftAnswer.{DraftAnswer}
use Rattle.ambiguity.specs.Drafts.{BeginTheorems, EditTheorems, PlaceTheorems, DraftTheorems}

module _ (t n : ℕ) (table : List ℕ) where
  pub record TableTheorems (r : TableChecked) : Type 0 where
    -- passed exactly if the table is that of a well-formed grammar with a sentence, and then with that grammar's record
    pub passes : (G : Grammar) → Stores t n table G → (r.verdict ≡ Passed) × (r.grammar ≡ record_of G)
    pub passes_only : r.verdict ≡ Passed → (G : Grammar) × Stores t n table G × (r.grammar ≡ record_of G)
    -- document 02, [4]: refused with 19, at 0, exactly if it is that of a well-formed grammar without one
    pub without : (at : ℕ) → (r.verdict ≡ Refused no_sentence at)
        ↔ ((at ≡ 0) × ((G : Grammar) × IsTableOf t n table G × ¬ HasSentence limits G))
    -- so rule 0 is live in every grammar that passes
    pub rule_0_live : (G : Grammar) → Stores t n table G → Live limits G 0

-- each entry over triples, with m callers
module _ (t n : ℕ) (table : List ℕ) (m : ℕ) where
  pub record StepTheorems (f p q : ℕ) (ask : ℕ → StepAnswer) : Type 0 where
    -- the refusals up to [11]'s 8 come first
    pub refused : (cause : Cause) (at : ℕ) → StopsAt t n table m cause at → (k : ℕ) → Usize k → ask k ≡ step.Refused cause at
    -- of a triple out of range every answer is that there are no more
    pub outside : (G : Grammar) → StoresAt t n table m G → ¬ ((f < 2) × (p < states_at G m) × (q < states_at G m)) → (k : ℕ) → Usize k → ask k ≡ step.NoMore
    -- of a triple in range the answers are exactly the steps to its successors
    pub exact : (G : Grammar) → StoresAt t n table m G → f < 2 → p < states_at G m → q < states_at G m → (s : Step)
        → ((k : ℕ) × Usize k × (ask k ≡ step.Record s))
        ↔ StepAt (callers limits G m) f p q s.layer s.left s.right s.on_left s.on_right
    -- a record stands at one place only
    pub once : (G : Grammar) → StoresAt t n table m G → (k l : ℕ) (s : Step) → Usize k → Usize l → ask k ≡ step.Record s → ask l ≡ step.Record s → k ≡ l
    -- there is a number of records, at most 2Q² + 2: below it each place has one, and from it on there are no more
    pub count : (G : Grammar) → StoresAt t n table m G → (c : ℕ) × (c ≤ triple_count (states_at G m) + 2)
        × ((k : ℕ) → k < c → (s : Step) × (ask k ≡ step.Record s)) × ((k : ℕ) → c ≤ k → Usize k → ask k ≡ step.NoMore)

  pub record WitnessTheorems (row : List ℕ) (v : CheckVerdict) : Type 0 where
    -- the refusals up to [11]'s 8 come first
    pub refused : (cause : Cause) (at : ℕ) → StopsAt t n table m cause at → v ≡ check.Refused cause at
    -- accepted exactly if the row is a witness of the grammar
    pub accepted : (G : Grammar) → StoresAt t n table m G → (v ≡ check.Accepted) ↔ Witness (callers limits G m) row
    -- demand 2: an accepted row shows that two strings part
    pub potential : (G : Grammar) → StoresAt t n table m G → v ≡ check.Accepted → Potential (callers limits G m)

  pub record RecordTheorems (entries : List TripleRecord) (v : CheckVerdict) : Type 0 where
    pub refused : (cause : Cause) (at : ℕ) → StopsAt t n table m cause at → v ≡ check.Refused cause at
    -- records in range are answered as the row of their indices is
    pub alike : (G : Grammar) → StoresAt t n table m G → ((e : TripleRecord) → Mem e entries → InRange (states_at G m) e)
        → (w : CheckVerdict) → WitnessAnswer t n table m (map (index_of (states_at G m)) entries) w → v ≡ w
    -- accepted exactly if all are in range and their indices are a witness
    pub accepted : (G : Grammar) → StoresAt t n table m G
        → (v ≡ check.Accepted)
        ↔ (((e : TripleRecord) → Mem e entries → InRange (states_at G m) e) × Witness (callers limits G m) (map (index_of (states_at G m)) entries))
    -- demand 2: accepted records show that two strings part
    pub potential : (G : Grammar) → StoresAt t n table m G → v ≡ check.Accepted → Potential (callers limits G m)

  pub record CertificateTheorems (bytes : List ℕ) (v : CheckVerdict) : Type 0 where
    pub refused : (cause : Cause) (at : ℕ) → StopsAt t n table m cause at → v ≡ check.Refused cause at
    -- demand 3: accepted exactly if the bytes are an acceptable certificate of the grammar
    pub accepted : (G : Grammar) → StoresAt t n table m G → (v ≡ check.Accepted) ↔ AcceptableCertificate (callers limits G m) bytes
    -- and if it accepts them, no sentence of that grammar has two derivation trees
    pub one-tree : (G : Grammar) → StoresAt t n table m G → v ≡ check.Accepted → (sentence : List ℕ) → ¬ HasTwoTrees limits G sentence
    -- demand 2: nor do two strings part
    pub unambiguous : (G : Grammar) → StoresAt t n table m G → v ≡ check.Accepted → Unambiguous (callers limits G m)
    -- document 02, [3]: what was an acceptable certificate of a grammar with a sentence while every rule had moves, document 01's
    -- automaton, is still accepted without callers; of a grammar without one it is refused with 19 (`refused`, [4])
    pub former : m ≡ 0 → (G : Grammar) → Stores t n table G → AcceptableCertificate (position_of limits G every) bytes → v ≡ check.Accepted

-- whatever answers as the entries promise; and the automaton and the indices with which they are computed
pub record FrontPage : Type 1 where
  pub tables : (t n : ℕ) (table : List ℕ) (r : TableChecked) → TableAnswer t n table r → TableTheorems t n table r
  -- document 02, [11]: for each m by itself, and for every input: either a refusal up to [11]'s 8 stops it or the states fit
  pub stopped : (t n : ℕ) (table : List ℕ) (m : ℕ) → ((cause : Cause) × (at : ℕ) × StopsAt t n table m cause at) ⊎ ((G : Grammar) × StoresAt t n table m G)
  pub steps : (t n : ℕ) (table : List ℕ) (m f p q : ℕ) (ask : ℕ → StepAnswer) → StepAnswers t n table m f p q ask
      → StepTheorems t n table m f p q ask
  pub witnesses : (t n : ℕ) (table : List ℕ) (m : ℕ) (row : List ℕ) (v : CheckVerdict) → WitnessAnswer t n table m row v
      → WitnessTheorems t n table m row v
  pub records : (t n : ℕ) (table : List ℕ) (m : ℕ) (entries : List TripleRecord) (v : CheckVerdict) → RecordsAnswer t n table m entries v
      → RecordTheorems t n table m entries v
  pub certificates : (t n : ℕ) (table : List ℕ) (m : ℕ) (bytes : List ℕ) (v : CheckVerdict) → CertificateAnswer t n table m bytes v
      → CertificateTheorems t n table m bytes v
  pub searches : (t n : ℕ) (table : List ℕ) (m : ℕ) (before : Lent) (r : SearchVerdict) (after : Lent) → Searches t n table m before r after
      → SearchTheorems t n table m before r after
  pub rooms : (t n : ℕ) (table : List ℕ) (m : ℕ) (r : SearchRoom) → RoomAnswer t n table m r → RoomTheorems t n table m r
  -- whose moves these are, and which states there are
  pub callers : (G : Grammar) → WellFormed limits G → HasSentence limits G → (m : ℕ) → CallerTheorems G m
  -- across m: at 0 the automaton is the position automaton, and an unambiguous verdict is kept
  pub across : (t n : ℕ) (table : List ℕ) → AcrossTheorems t n table
  pub texts : TextTheorems
  pub text-lengths : (t n : ℕ) (table bytes starts lengths : List ℕ) (r : TextLength) → LengthAnswer t n table bytes starts lengths r
      → LengthTheorems t n table bytes starts lengths r
  -- document 02, [10]: a module's text joined to the robot's
  pub joins : (robot addon table : List ℕ) (v : TextRead) (table' : List ℕ) → JoinsTexts robot addon table v table'
      → JoinTheorems robot addon table v table'
  pub joined-names : (robot addon : List ℕ) (i : ℕ) (part : List ℕ) → ShowsName robot addon i part → ShownTheorems robot addon i part
  pub joined-places : (robot addon : List ℕ) (i : ℕ) (place : Place) → ShowsPlace robot addon i place
      → ShownTheorems robot addon i (part_of robot addon place)
  pub joined_texts : (robot addon out : List ℕ) (w : TextWritten) (out' : List ℕ) → WritesJoined robot addon out w out'
      → JoinedTextTheorems robot addon out w out'
  pub reports : (text out : List ℕ) (r : Reported) (out' : List ℕ) → Reports text out r out' → ReportTheorems text out r out'
  pub readings : (text : List ℕ) (s : Source) → check_text limits text ≡ done s → ReadingTheorems s
  pub backs : (text lines left right : List ℕ) (r : ReadBack) (left' right' : List ℕ) → ReadsBack text lines left right r left' right'
      → BackTheorems text lines left right r left' right'
  -- document 02, [12]: the trees of one sentence, and the room told beforehand for them
  pub trees : (t n : ℕ) (table w work list : List ℕ) (r : TreesFound) (work' list' : List ℕ) → FindsTrees t n table w work list r work' list'
      → TreesTheorems t n table w work list r work' list'
  pub trees_rooms : (t n : ℕ) (table : List ℕ) (r : TreesRoom) → TreesRoomAnswer t n table r → TreesRoomTheorems t n table r
  pub listed : (G : Grammar) → WellFormed limits G → ListedTheorems G
  -- document 02, [13]: a grammar while it is edited, in a row: begun, edited, read out; and what an edit does to a draft
  pub drafts_begun : (t n : ℕ) (table before : List ℕ) (r : DraftAnswer) (row : List ℕ) → BeginsDraft t n table before r row
      → BeginTheorems t n table before r row
  pub drafts_edited : (before : List ℕ) (s : Edit) (r : DraftAnswer) (row : List ℕ) → EditsDraft before s r row → EditTheorems before s r row
  pub draft-tables : (row part : List ℕ) → ShowsTable row part → PlaceTheorems row part
  pub drafts : (row : List ℕ) (d : Draft) → draft_in row ≡ done d → DraftTheorems d
  -- document 02, [8]: a byte table that passed under document 01's limits, carried over
  pub carried : (t n : ℕ) (table : List ℕ) (G : Grammar) → check_table byte_limits t n table ≡ done G → CarriedTheorems t n table G
  pub automata : (G : Grammar) → WellFormed limits G → AutomatonTheorems G
  pub indices : (Q : ℕ) → IndexTheorems Q
