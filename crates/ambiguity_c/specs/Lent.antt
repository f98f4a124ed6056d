-- What each exported function promises to C: the entry's own promise, of an answer whose C form is returned.
-- Assumes nothing.
use Rattle.std.specs.Prelude.{ℕ, ◌≡◌, List}
use Rattle.channels.specs.Promise.{ReadsPlan}
use Rattle.drafts.specs.Draft.{Edit}
use Rattle.drafts.specs.Promise.{BeginsDraft, EditsDraft}
use Rattle.modules.specs.Promise.{JoinsTexts, WritesJoined}
use Rattle.readings.specs.Promise.{ReadsBack}
use Rattle.report.specs.Report.{Reports}
use Rattle.search.specs.Promise.{Lent, Searches}
use Rattle.text.specs.Promise.{ReadsText, WritesText}
use Rattle.trees.specs.Promise.{FindsTrees}
use Rattle.ambiguity_c.specs.Replies.{search_reply, read_reply, write_reply, report_reply, read_back_reply, trees_reply, draft_reply, plan_reply}
use Rattle.ambiguity_c.specs.declared.SearchReply.{SearchReply}
use Rattle.ambiguity_c.specs.declared.ReadReply.{ReadReply}
use Rattle.ambiguity_c.specs.declared.WriteReply.{WriteReply}
use Rattle.ambiguity_c.specs.declared.ReportReply.{ReportReply}
use Rattle.ambiguity_c.specs.declared.ReadBackReply.{ReadBackReply}
use Rattle.ambiguity_c.specs.declared.TreesReply.{TreesReply}
use Rattle.ambiguity_c.specs.declared.DraftReply.{DraftReply}
use Rattle.ambiguity_c.specs.declared.PlanReply.{PlanReply}

-- r is the C form of an answer of which the promise holds
pub record Replies {Verdict Reply : Type 0} (Promised : Verdict → Type 0) (reply : Verdict → Reply) (r : Reply) : Type 0 where
  pub answer : Verdict
  pub promised : Promised answer
  pub told : r ≡ reply answer

abbrev pub RepliesSearch : ℕ → ℕ → List ℕ → ℕ → Lent → SearchReply → Lent → Type 0
RepliesSearch t n table m before r after = Replies (λ v. Searches t n table m before v after) search_reply r

abbrev pub RepliesRead : List ℕ → List ℕ → List ℕ → List ℕ → ReadReply → List ℕ → List ℕ → List ℕ → Type 0
RepliesRead text table starts lengths r table' starts' lengths' =
    Replies (λ v. ReadsText text table starts lengths v table' starts' lengths') read_reply r

abbrev pub RepliesWritten : ℕ → ℕ → List ℕ → List ℕ → List ℕ → List ℕ → List ℕ → WriteReply → List ℕ → Type 0
RepliesWritten t n table bytes starts lengths out r out' = Replies (λ v. WritesText t n table bytes starts lengths out v out') write_reply r

abbrev pub RepliesJoin : List ℕ → List ℕ → List ℕ → ReadReply → List ℕ → Type 0
RepliesJoin robot addon table r table' = Replies (λ v. JoinsTexts robot addon table v table') read_reply r

abbrev pub RepliesJoined : List ℕ → List ℕ → List ℕ → WriteReply → List ℕ → Type 0
RepliesJoined robot addon out r out' = Replies (λ v. WritesJoined robot addon out v out') write_reply r

abbrev pub RepliesReport : List ℕ → List ℕ → ReportReply → List ℕ → Type 0
RepliesReport text out r out' = Replies (λ v. Reports text out v out') report_reply r

abbrev pub RepliesBack : List ℕ → List ℕ → List ℕ → List ℕ → ReadBackReply → List ℕ → List ℕ → Type 0
RepliesBack text lines left right r left' right' = Replies (λ v. ReadsBack text lines left right v left' right') read_back_reply r

abbrev pub RepliesTrees : ℕ → ℕ → List ℕ → List ℕ → List ℕ → List ℕ → TreesReply → List ℕ → List ℕ → Type 0
RepliesTrees t n table row work list r work' list' = Replies (λ v. FindsTrees t n table row work list v work' list') trees_reply r

abbrev pub RepliesBegun : ℕ → ℕ → List ℕ → List ℕ → DraftReply → List ℕ → Type 0
RepliesBegun t n table draft r draft' = Replies (λ v. BeginsDraft t n table draft v draft') draft_reply r

abbrev pub RepliesEdited : List ℕ → Edit → DraftReply → List ℕ → Type 0
RepliesEdited draft s r draft' = Replies (λ v. EditsDraft draft s v draft') draft_reply r

abbrev pub RepliesPlan : List ℕ → List ℕ → List ℕ → PlanReply → List ℕ → List ℕ → Type 0
RepliesPlan row work list r work' list' = Replies (λ v. ReadsPlan row work list v work' list') plan_reply r
