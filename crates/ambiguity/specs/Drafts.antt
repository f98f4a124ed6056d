-- What follows from the promises for drafts: every row is answered, whatever it holds, and a refusal leaves it as it was; from a new
-- draft on, whatever is called in turn, the row holds the draft that the history gives, whose table the table check then judges; and
-- what an edit does to rules and marks.
-- Source: document 02, [13]. Assumes nothing.
use Rattle.std.specs.Prelude.{ℕ, ◌+◌, ◌-◌, ◌≤◌, ◌<◌, ◌≡◌, List, [], ◌∷◌, ◌++◌, ◌⊎◌, length, get_or, take, drop}
use Rattle.std.proofs.Math.Option.{none, some}
use Rattle.grammar.specs.Basics.{Mem}
use Rattle.grammar.specs.Limits.{limits}
use Rattle.grammar.specs.Grammar.{Rule, Grammar, state_count}
use Rattle.grammar.specs.Table.{encode}
use Rattle.grammar.specs.Live.{HasSentence}
use Rattle.grammar.specs.Refusal.{done, and_then, buffer_too_short, no_sentence, not_present}
use Rattle.grammar.specs.TableCheck.{TableAnswer}
use Rattle.grammar.specs.declared.TableChecked.{TableChecked}
use Rattle.grammar.specs.declared.TableVerdict.TheVariants as verdict
use Rattle.grammar.specs.declared.Cause.{Cause}
use Rattle.drafts.specs.Draft.{Draft, Edit, withdraw, mark, return, add, marks_count, kept, taken, after, or_same, new_draft}
use Rattle.drafts.specs.Row.{draft_room, block_of, rules_in, draft_in, put, target}
use Rattle.drafts.specs.Promise.{Leaves, EditsDraft, BeginsDraft}
use Rattle.drafts.specs.Reading.{ShowsTable, CountsDraft, PlacesTable}
use Rattle.drafts.specs.declared.DraftAnswer.{DraftAnswer}
use Rattle.drafts.specs.declared.DraftAnswer.TheVariants.{Done, Refused}
use Rattle.drafts.specs.declared.DraftCounts.{DraftCounts}
use Rattle.drafts.specs.declared.DraftCounts.TheVariants.{Counts}
use Rattle.drafts.specs.declared.TablePlace.TheVariants.{Stands}
use Rattle.ambiguity.specs.Entries.{IsTableOf}

-- ---- every row

module _ (before : List ℕ) (s : Edit) where
  -- an edit of any row: adding, withdrawing, marking, returning
  pub record EditTheorems (r : DraftAnswer) (row : List ℕ) : Type 0 where
    -- 14 for a row that is too short, then 23 at 0 for one that holds no draft; a refusal leaves the row as it was
    pub short : length before < draft_room → r ≡ Refused buffer_too_short 0
    pub empty : draft_room ≤ length before → rules_in (block_of before 0) ≡ none → r ≡ Refused not_present 0
    pub refused : (cause : Cause) (at : ℕ) → r ≡ Refused cause at → row ≡ before
    -- else the row holds the draft after the edit, which is the same draft if the edit was refused
    pub edited : (d : Draft) → draft_in before ≡ done d → draft_in row ≡ done (or_same limits d (taken limits d s))
    -- the answer and the row afterwards are determined
    pub determined : (r₂ : DraftAnswer) (row₂ : List ℕ) → EditsDraft before s r₂ row₂ → (r ≡ r₂) × (row ≡ row₂)

-- the part of the row that is told for C is the table
pub record PlaceTheorems (row part : List ℕ) : Type 0 where
  pub placed : (start entries : ℕ) → PlacesTable row (Stands start entries) → part ≡ take entries (drop start row)

-- ---- from a new draft on

-- edits called one after the other on one row, each answering as it promises
pub data Called : List ℕ → List Edit → List ℕ → Type 0 where
  none-called : {row : List ℕ} → Called row [] row
  called : {before row last : List ℕ} {s : Edit} {history : List Edit} (r : DraftAnswer)
      → EditsDraft before s r row → Called row history last → Called before (s ∷ history) last

-- the grammar of a draft; it may lack sentences
abbrev pub draft_grammar : Draft → Grammar
draft_grammar d = record { terminals = d.terminals; nonterminals = d.nonterminals; rules = d.rules }

-- the row after a history that makes this draft of a new one over t and n
pub record HistoryTheorems (t n : ℕ) (d : Draft) (row : List ℕ) : Type 0 where
  -- the row holds this draft: the rules, and those under each mark, are those the history gives
  pub holds : draft_in row ≡ done d
  -- its rules are within the limits, declared and distinct
  pub is_table : IsTableOf t n (encode d.rules) (draft_grammar d)
  -- its table and its numbers as they are read out of the row
  pub table : (part : List ℕ) → ShowsTable row part → part ≡ encode d.rules
  pub counts : (r : DraftCounts) → CountsDraft row r
      → r ≡ Counts t n (length d.rules) (length (encode d.rules)) (state_count d.rules)
  -- handed to the table check, this table passes if the draft has a sentence, and is refused with 19 at 0 if it has none
  pub passed : (part : List ℕ) (c : TableChecked) → ShowsTable row part → TableAnswer t n part c
      → HasSentence limits (draft_grammar d) → c.verdict ≡ verdict.Passed
  pub without : (part : List ℕ) (c : TableChecked) → ShowsTable row part → TableAnswer t n part c
      → ¬ HasSentence limits (draft_grammar d) → c.verdict ≡ verdict.Refused no_sentence 0
  -- a further edit is answered as it is of this draft, and writes the rules of the block that it changes
  pub next : (s : Edit) (r : DraftAnswer) (row' : List ℕ) → EditsDraft row s r row'
      → Leaves (and_then (taken limits d s) (λ e. done (put row (target s) e.rules))) row r row'

module _ (t n : ℕ) (table before : List ℕ) where
  pub record BeginTheorems (r : DraftAnswer) (row : List ℕ) : Type 0 where
    -- done exactly if the table is that of a well-formed grammar, with a sentence or without, and the row is long enough
    pub begins : (G : Grammar) → IsTableOf t n table G → draft_room ≤ length before → r ≡ Done
    pub begins-only : r ≡ Done → (G : Grammar) × IsTableOf t n table G × (draft_room ≤ length before)
    -- refused as the table check refuses, but never with 19; 14 comes last; a refusal leaves the row as it was
    pub table-refused : (c : TableChecked) (cause : Cause) (at : ℕ) → TableAnswer t n table c → c.verdict ≡ verdict.Refused cause at
        → ¬ (cause ≡ no_sentence) → r ≡ Refused cause at
    pub never_19 : (at : ℕ) → ¬ (r ≡ Refused no_sentence at)
    pub short : (G : Grammar) → IsTableOf t n table G → length before < draft_room → r ≡ Refused buffer_too_short 0
    pub refused : (cause : Cause) (at : ℕ) → r ≡ Refused cause at → row ≡ before
    -- after any row of edits, marks and returns the rules are those the history gives, refused edits changing nothing
    pub histories : r ≡ Done → (d : Draft) × (new_draft limits t n table ≡ done d)
        × ((history : List Edit) (last : List ℕ) → Called row history last → HistoryTheorems t n (after limits d history) last)
    -- the answer and the row afterwards are determined
    pub determined : (r₂ : DraftAnswer) (row₂ : List ℕ) → BeginsDraft t n table before r₂ row₂ → (r ≡ r₂) × (row ≡ row₂)

-- ---- what an edit does

-- rule i is gone, and later rules have moved down by one number; rules are numbered from 1
pub record Withdrawn (i : ℕ) (d e : Draft) : Type 0 where
  pub earlier : (j : ℕ) (r : Rule) → 1 ≤ j → j < i → get_or e.rules (j - 1) r ≡ get_or d.rules (j - 1) r
  pub later : (j : ℕ) (r : Rule) → i ≤ j → get_or e.rules (j - 1) r ≡ get_or d.rules j r
  pub count : length e.rules + 1 ≡ length d.rules
  pub marks : e.marks ≡ d.marks

-- of a draft that a row holds; it has its eight marks
pub record DraftTheorems (d : Draft) : Type 0 where
  pub eight : length d.marks ≡ marks_count
  pub withdrawn : (i : ℕ) (e : Draft) → taken limits d (withdraw i) ≡ done e → Withdrawn i d e
  -- entries past an added rule's last code are not read
  pub unread : (entries more : List ℕ) (e : Draft) → taken limits d (add entries) ≡ done e → taken limits d (add (entries ++ more)) ≡ done e
  -- marking keeps the rules under that mark alone
  pub marked : (k : ℕ) (e : Draft) → taken limits d (mark k) ≡ done e
      → (kept e k ≡ some d.rules) × (e.rules ≡ d.rules) × ((j : ℕ) → 1 ≤ j → ¬ (j ≡ k) → kept e j ≡ kept d j)
  -- returning brings back the rules that a mark keeps, and leaves all marks in being
  pub returned : (k : ℕ) (e : Draft) → taken limits d (return k) ≡ done e → (kept d k ≡ some e.rules) × (e.marks ≡ d.marks)
  -- a mark stays until it is set again: whatever else is done, returning to it brings back the rules that were marked
  pub stays : (history : List Edit) (k : ℕ) → 1 ≤ k → ¬ Mem (mark k) history → kept (after limits d history) k ≡ kept d k
  pub comes_back : (history : List Edit) (k : ℕ) → 1 ≤ k → k ≤ marks_count → ¬ Mem (mark k) history
      → (after limits d (mark k ∷ (history ++ (return k ∷ [])))).rules ≡ d.rules
