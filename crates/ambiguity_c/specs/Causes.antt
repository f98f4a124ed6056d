-- What the cause in a reply tells a caller: it is one of document 01's or document 02's 19 to 23, or 0, and then nothing is refused.
-- proofs/Causes.antt has the value of the record. Assumes nothing.
use Rattle.std.specs.Prelude.{ℕ, ◌≤◌, ◌≡◌, List, ◌⊎◌}
use Rattle.grammar.specs.Refusal.{cause_number, no_sentence, kinds_clash, too_many_callers, row_wrong, not_present}
use Rattle.channels.specs.Promise.{ReadsPlan}
use Rattle.channels.specs.declared.PlanRead.{PlanRead}
use Rattle.channels.specs.declared.PlanRead.TheVariants as plan
use Rattle.drafts.specs.Draft as drafts
use Rattle.drafts.specs.Promise.{BeginsDraft, EditsDraft}
use Rattle.drafts.specs.Reading.{CountsDraft, PlacesTable}
use Rattle.drafts.specs.declared.DraftAnswer.{DraftAnswer}
use Rattle.drafts.specs.declared.DraftAnswer.TheVariants as edit
use Rattle.drafts.specs.declared.DraftCounts.{DraftCounts}
use Rattle.drafts.specs.declared.DraftCounts.TheVariants as counts
use Rattle.drafts.specs.declared.TablePlace.{TablePlace}
use Rattle.drafts.specs.declared.TablePlace.TheVariants as tablePlace
use Rattle.grammar.specs.declared.TableChecked.{TableChecked}
use Rattle.grammar.specs.declared.TableVerdict.TheVariants.{Passed}
use Rattle.grammar.specs.TableCheck.{TableAnswer}
use Rattle.triples.specs.declared.CheckVerdict.{CheckVerdict}
use Rattle.triples.specs.declared.CheckVerdict.TheVariants.{Accepted}
use Rattle.triples.specs.declared.Step.{Step}
use Rattle.triples.specs.Verdict.{WitnessAnswer, CertificateAnswer}
use Rattle.modules.specs.Promise.{JoinsTexts, WritesJoined}
use Rattle.readings.specs.Promise.{ReadsBack}
use Rattle.readings.specs.declared.ReadBack.{ReadBack}
use Rattle.readings.specs.declared.ReadBack.TheVariants as back
use Rattle.report.specs.Report.{Reports}
use Rattle.report.specs.declared.Reported.{Reported}
use Rattle.report.specs.declared.Reported.TheVariants as report
use Rattle.rooms.specs.Room.{RoomAnswer}
use Rattle.rooms.specs.declared.SearchRoom.{SearchRoom}
use Rattle.rooms.specs.declared.SearchRoom.TheVariants as room
use Rattle.search.specs.Promise.{Lent, Searches}
use Rattle.search.specs.declared.SearchVerdict.{SearchVerdict}
use Rattle.search.specs.declared.SearchVerdict.TheVariants.{Unambiguous, Potential}
use Rattle.steps.specs.declared.StepAnswer.{StepAnswer}
use Rattle.steps.specs.declared.StepAnswer.TheVariants.{Record, NoMore}
use Rattle.text.specs.Promise.{ReadsText, WritesText, LengthAnswer}
use Rattle.text.specs.declared.TextLength.{TextLength}
use Rattle.text.specs.declared.TextLength.TheVariants as measured
use Rattle.text.specs.declared.TextRead.{TextRead}
use Rattle.text.specs.declared.TextRead.TheVariants.{Read}
use Rattle.text.specs.declared.TextWritten.{TextWritten}
use Rattle.text.specs.declared.TextWritten.TheVariants.{Written}
use Rattle.trees.specs.Promise.{FindsTrees, TreesRoomAnswer}
use Rattle.trees.specs.declared.TreesFound.{TreesFound}
use Rattle.trees.specs.declared.TreesFound.TheVariants.{Nothing, One, Several}
use Rattle.trees.specs.declared.TreesRoom.{TreesRoom}
use Rattle.trees.specs.declared.TreesRoom.TheVariants.{Entries}
use Rattle.witness_records.specs.Records.{RecordsAnswer}
use Rattle.witness_records.specs.declared.TripleRecord.{TripleRecord}
use Rattle.ambiguity.specs.Entries.{Usize, StepAnswers}
use Rattle.ambiguity_c.specs.Replies.{table_reply, step_reply, check_reply, search_reply, room_reply, read_reply, write_reply, length_reply, report_reply, read_back_reply, trees_reply, trees_room_reply, draft_reply, draft_counts_reply, draft_table_reply, plan_reply}

-- the cause is none that the documents do not have, and 0 tells that something is answered
pub record Tells (cause : ℕ) (Answered : Type 0) : Type 0 where
  pub known : cause ≤ cause_number no_sentence
  pub zero : cause ≡ 0 → Answered

-- it may be one other too
pub record TellsOr (other cause : ℕ) (Answered : Type 0) : Type 0 where
  pub known : (cause ≤ cause_number no_sentence) ⊎ (cause ≡ other)
  pub zero : cause ≡ 0 → Answered

-- over two texts 20, with callers 21, of a row of terminals 22, of a draft 23
abbrev pub JoinTells : ℕ → Type 0 → Type 0
JoinTells = TellsOr (cause_number kinds_clash)

abbrev pub CallerTells : ℕ → Type 0 → Type 0
CallerTells = TellsOr (cause_number too_many_callers)

abbrev pub RowTells : ℕ → Type 0 → Type 0
RowTells = TellsOr (cause_number row_wrong)

abbrev pub DraftTells : ℕ → Type 0 → Type 0
DraftTells = TellsOr (cause_number not_present)

-- the numbers of the reply are the answer
abbrev pub IsRead : TextRead → Type 0
IsRead v = v ≡ Read (read_reply v).terminals (read_reply v).nonterminals (read_reply v).entries (read_reply v).states

abbrev pub IsRoom : SearchRoom → Type 0
IsRoom v = v ≡ room.Room (room_reply v).states (room_reply v).certificate (room_reply v).entries (room_reply v).moves

abbrev pub IsVerdict : SearchVerdict → Type 0
IsVerdict v =
    (((search_reply v).verdict ≡ 1) × (v ≡ Unambiguous (search_reply v).count (search_reply v).looked))
    ⊎ (((search_reply v).verdict ≡ 2) × (v ≡ Potential (search_reply v).count (search_reply v).looked))

-- 1 a record, or 2 no more
abbrev pub IsStep : StepAnswer → Type 0
IsStep v =
    (((step_reply v).kind ≡ 1) × ((s : Step) × (v ≡ Record s)))
    ⊎ (((step_reply v).kind ≡ 2) × (v ≡ NoMore))

-- 1 no tree, 2 one, or 3 several
abbrev pub IsFound : TreesFound → Type 0
IsFound v =
    (((trees_reply v).found ≡ 1) × (v ≡ Nothing))
    ⊎ ((((trees_reply v).found ≡ 2) × (v ≡ One (trees_reply v).count))
    ⊎ (((trees_reply v).found ≡ 3) × (v ≡ Several)))

-- 1 no plan, or 2 the plan
abbrev pub IsPlan : PlanRead → Type 0
IsPlan v =
    (((plan_reply v).found ≡ 1) × (v ≡ plan.Nothing))
    ⊎ (((plan_reply v).found ≡ 2) × (v ≡ plan.Plan (plan_reply v).count))

abbrev pub IsCounts : DraftCounts → Type 0
IsCounts v =
    let r = draft_counts_reply v in
    v ≡ counts.Counts r.terminals r.nonterminals r.rules r.entries r.states

-- whatever answers as the entries promise
pub record CauseTheorems : Type 0 where
  pub tables : (t n : ℕ) (table : List ℕ) (r : TableChecked) → TableAnswer t n table r → Tells (table_reply r).cause (r.verdict ≡ Passed)
  pub steps : (t n : ℕ) (table : List ℕ) (m f p q : ℕ) (ask : ℕ → StepAnswer) → StepAnswers t n table m f p q ask
      → (k : ℕ) → Usize k → CallerTells (step_reply (ask k)).cause (IsStep (ask k))
  pub witnesses : (t n : ℕ) (table : List ℕ) (m : ℕ) (row : List ℕ) (v : CheckVerdict) → WitnessAnswer t n table m row v
      → CallerTells (check_reply v).cause (v ≡ Accepted)
  pub records : (t n : ℕ) (table : List ℕ) (m : ℕ) (entries : List TripleRecord) (v : CheckVerdict) → RecordsAnswer t n table m entries v
      → CallerTells (check_reply v).cause (v ≡ Accepted)
  pub certificates : (t n : ℕ) (table : List ℕ) (m : ℕ) (bytes : List ℕ) (v : CheckVerdict) → CertificateAnswer t n table m bytes v
      → CallerTells (check_reply v).cause (v ≡ Accepted)
  pub searches : (t n : ℕ) (table : List ℕ) (m : ℕ) (before : Lent) (v : SearchVerdict) (after : Lent) → Searches t n table m before v after
      → CallerTells (search_reply v).cause (IsVerdict v)
  pub rooms : (t n : ℕ) (table : List ℕ) (m : ℕ) (v : SearchRoom) → RoomAnswer t n table m v → CallerTells (room_reply v).cause (IsRoom v)
  pub reads : (text table starts lengths : List ℕ) (v : TextRead) (table' starts' lengths' : List ℕ)
      → ReadsText text table starts lengths v table' starts' lengths' → Tells (read_reply v).cause (IsRead v)
  pub writes : (t n : ℕ) (table bytes starts lengths out : List ℕ) (v : TextWritten) (out' : List ℕ)
      → WritesText t n table bytes starts lengths out v out' → Tells (write_reply v).cause (v ≡ Written (write_reply v).length)
  pub text-lengths : (t n : ℕ) (table bytes starts lengths : List ℕ) (v : TextLength) → LengthAnswer t n table bytes starts lengths v
      → Tells (length_reply v).cause (v ≡ measured.Bytes (length_reply v).length)
  pub joins : (robot addon table : List ℕ) (v : TextRead) (table' : List ℕ) → JoinsTexts robot addon table v table'
      → JoinTells (read_reply v).cause (IsRead v)
  pub joined_texts : (robot addon out : List ℕ) (v : TextWritten) (out' : List ℕ) → WritesJoined robot addon out v out'
      → JoinTells (write_reply v).cause (v ≡ Written (write_reply v).length)
  pub reports : (text out : List ℕ) (v : Reported) (out' : List ℕ) → Reports text out v out'
      → Tells (report_reply v).cause (v ≡ report.Written (report_reply v).length)
  pub backs : (text lines left right : List ℕ) (v : ReadBack) (left' right' : List ℕ) → ReadsBack text lines left right v left' right'
      → Tells (read_back_reply v).cause (v ≡ back.Read (read_back_reply v).left (read_back_reply v).right)
  pub trees : (t n : ℕ) (table row work list : List ℕ) (v : TreesFound) (work' list' : List ℕ) → FindsTrees t n table row work list v work' list'
      → RowTells (trees_reply v).cause (IsFound v)
  pub trees_rooms : (t n : ℕ) (table : List ℕ) (v : TreesRoom) → TreesRoomAnswer t n table v
      → Tells (trees_room_reply v).cause (v ≡ Entries (trees_room_reply v).entries)
  pub drafts_begun : (t n : ℕ) (table draft : List ℕ) (v : DraftAnswer) (draft' : List ℕ) → BeginsDraft t n table draft v draft'
      → Tells (draft_reply v).cause (v ≡ edit.Done)
  pub drafts_edited : (draft : List ℕ) (s : drafts.Edit) (v : DraftAnswer) (draft' : List ℕ) → EditsDraft draft s v draft'
      → DraftTells (draft_reply v).cause (v ≡ edit.Done)
  pub draft-counts : (draft : List ℕ) (v : DraftCounts) → CountsDraft draft v → DraftTells (draft_counts_reply v).cause (IsCounts v)
  pub draft-tables : (draft : List ℕ) (v : TablePlace) → PlacesTable draft v
      → DraftTells (draft_table_reply v).cause (v ≡ tablePlace.Stands (draft_table_reply v).start (draft_table_reply v).entries)
  pub plans : (row work list : List ℕ) (v : PlanRead) (work' list' : List ℕ) → ReadsPlan row work list v work' list'
      → RowTells (plan_reply v).cause (IsPlan v)
