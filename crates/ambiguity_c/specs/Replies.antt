-- The entries' answers as C has them: for each case of an enum document 01's number and values. `cause` 0 says that nothing is
-- refused; fields that a case does not have are 0. Source: document 01, "Causes of refusal"; document 02, [2], [5], [10], [12], [13] and [14].
-- Assumes nothing.
use Rattle.std.specs.Prelude.{ℕ}
use Rattle.channels.specs.declared.PlanRead.{PlanRead}
use Rattle.channels.specs.declared.PlanRead.TheVariants as plan
use Rattle.drafts.specs.declared.DraftAnswer.{DraftAnswer}
use Rattle.drafts.specs.declared.DraftAnswer.TheVariants as edit
use Rattle.drafts.specs.declared.DraftCounts.{DraftCounts}
use Rattle.drafts.specs.declared.DraftCounts.TheVariants as counts
use Rattle.drafts.specs.declared.TablePlace.{TablePlace}
use Rattle.drafts.specs.declared.TablePlace.TheVariants as tablePlace
use Rattle.grammar.specs.Refusal.{cause_number}
use Rattle.grammar.specs.declared.TableChecked.{TableChecked}
use Rattle.grammar.specs.declared.TableVerdict.{TableVerdict}
use Rattle.grammar.specs.declared.TableVerdict.TheVariants as table
use Rattle.modules.specs.declared.Place.{Place}
use Rattle.modules.specs.declared.Place.TheVariants as place
use Rattle.readings.specs.declared.ReadBack.{ReadBack}
use Rattle.readings.specs.declared.ReadBack.TheVariants as back
use Rattle.report.specs.declared.Reported.{Reported}
use Rattle.report.specs.declared.Reported.TheVariants as report
use Rattle.rooms.specs.declared.SearchRoom.{SearchRoom}
use Rattle.rooms.specs.declared.SearchRoom.TheVariants as room
use Rattle.search.specs.declared.SearchVerdict.{SearchVerdict}
use Rattle.search.specs.declared.SearchVerdict.TheVariants as search
use Rattle.steps.specs.declared.StepAnswer.{StepAnswer}
use Rattle.steps.specs.declared.StepAnswer.TheVariants as step
use Rattle.text.specs.declared.TextLength.{TextLength}
use Rattle.text.specs.declared.TextLength.TheVariants as measured
use Rattle.text.specs.declared.TextRead.{TextRead}
use Rattle.text.specs.declared.TextRead.TheVariants as reader
use Rattle.text.specs.declared.TextWritten.{TextWritten}
use Rattle.text.specs.declared.TextWritten.TheVariants as writer
use Rattle.trees.specs.declared.TreesFound.{TreesFound}
use Rattle.trees.specs.declared.TreesFound.TheVariants as trees
use Rattle.trees.specs.declared.TreesRoom.{TreesRoom}
use Rattle.trees.specs.declared.TreesRoom.TheVariants as workRow
use Rattle.triples.specs.declared.CheckVerdict.{CheckVerdict}
use Rattle.triples.specs.declared.CheckVerdict.TheVariants as check
use Rattle.triples.specs.declared.Move.{Move}
use Rattle.triples.specs.declared.Move.TheVariants.{Opening, Closing, Symbol, Still}
use Rattle.triples.specs.declared.Step.{Step}
use Rattle.ambiguity_c.specs.declared.TableReply.{TableReply}
use Rattle.ambiguity_c.specs.declared.MoveReply.{MoveReply}
use Rattle.ambiguity_c.specs.declared.StepReply.{StepReply}
use Rattle.ambiguity_c.specs.declared.CheckReply.{CheckReply}
use Rattle.ambiguity_c.specs.declared.SearchReply.{SearchReply}
use Rattle.ambiguity_c.specs.declared.RoomReply.{RoomReply}
use Rattle.ambiguity_c.specs.declared.ReadReply.{ReadReply}
use Rattle.ambiguity_c.specs.declared.WriteReply.{WriteReply}
use Rattle.ambiguity_c.specs.declared.LengthReply.{LengthReply}
use Rattle.ambiguity_c.specs.declared.PartReply.{PartReply}
use Rattle.ambiguity_c.specs.declared.ReportReply.{ReportReply}
use Rattle.ambiguity_c.specs.declared.ReadBackReply.{ReadBackReply}
use Rattle.ambiguity_c.specs.declared.TreesReply.{TreesReply}
use Rattle.ambiguity_c.specs.declared.TreesRoomReply.{TreesRoomReply}
use Rattle.ambiguity_c.specs.declared.DraftReply.{DraftReply}
use Rattle.ambiguity_c.specs.declared.DraftCountsReply.{DraftCountsReply}
use Rattle.ambiguity_c.specs.declared.DraftTableReply.{DraftTableReply}
use Rattle.ambiguity_c.specs.declared.PlanReply.{PlanReply}

-- the table check: passed with Q, or refused
abbrev pub verdict_reply : TableVerdict → ℕ → TableReply
verdict_reply table.Passed states = record { cause = 0; at = 0; states = states }
verdict_reply (table.Refused cause at) states = record { cause = cause_number cause; at = at; states = 0 }

abbrev pub table_reply : TableChecked → TableReply
table_reply r = verdict_reply r.verdict r.grammar.states

-- what moved on one side: 0 nothing, 1 an opening, 2 a closing, 3 a symbol
abbrev pub move_reply : Move → MoveReply
move_reply Still = record { moved = 0; number = 0 }
move_reply (Opening rule) = record { moved = 1; number = rule }
move_reply (Closing rule) = record { moved = 2; number = rule }
move_reply (Symbol code) = record { moved = 3; number = code }

-- the step records: 1 a record, 2 no more; 0 with a refusal
abbrev pub record_reply : Step → StepReply
record_reply s =
    record { cause = 0; at = 0; kind = 1; layer = s.layer; left = s.left; right = s.right; on_left = move_reply s.on_left; on_right = move_reply s.on_right }

abbrev pub no_record : ℕ → ℕ → ℕ → StepReply
no_record cause at kind =
    record { cause = cause; at = at; kind = kind; layer = 0; left = 0; right = 0; on_left = move_reply Still; on_right = move_reply Still }

abbrev pub step_reply : StepAnswer → StepReply
step_reply (step.Record s) = record_reply s
step_reply step.NoMore = no_record 0 0 2
step_reply (step.Refused cause at) = no_record (cause_number cause) at 0

-- the certificate check and both witness checks
abbrev pub check_reply : CheckVerdict → CheckReply
check_reply check.Accepted = record { cause = 0; at = 0 }
check_reply (check.Refused cause at) = record { cause = cause_number cause; at = at }

-- the search: 1 unambiguous with the size, 2 potential with the witness's number of entries, either with how many successors were
-- looked at; 0 with a refusal
abbrev pub search_reply : SearchVerdict → SearchReply
search_reply (search.Unambiguous size looked) = record { cause = 0; at = 0; verdict = 1; count = size; looked = looked }
search_reply (search.Potential entries looked) = record { cause = 0; at = 0; verdict = 2; count = entries; looked = looked }
search_reply (search.Refused cause at) = record { cause = cause_number cause; at = at; verdict = 0; count = 0; looked = 0 }

-- the room of a search: Q, the certificate's bytes, the entries of each row, and the number of moves
abbrev pub room_reply : SearchRoom → RoomReply
room_reply (room.Room q b e x) = record { cause = 0; at = 0; states = q; certificate = b; entries = e; moves = x }
room_reply (room.Refused cause at) = record { cause = cause_number cause; at = at; states = 0; certificate = 0; entries = 0; moves = 0 }

-- the reader: t, n, the number of the table's entries and Q
abbrev pub read_reply : TextRead → ReadReply
read_reply (reader.Read t n e q) = record { cause = 0; at = 0; terminals = t; nonterminals = n; entries = e; states = q }
read_reply (reader.Refused cause at) = record { cause = cause_number cause; at = at; terminals = 0; nonterminals = 0; entries = 0; states = 0 }

-- the writer: how many bytes were written
abbrev pub write_reply : TextWritten → WriteReply
write_reply (writer.Written m) = record { cause = 0; at = 0; length = m }
write_reply (writer.Refused cause at) = record { cause = cause_number cause; at = at; length = 0 }

-- the length told beforehand
abbrev pub length_reply : TextLength → LengthReply
length_reply (measured.Bytes m) = record { cause = 0; at = 0; length = m }
length_reply (measured.Refused cause at) = record { cause = cause_number cause; at = at; length = 0 }

-- document 02, [10]: where a joined symbol's name stands: 1 in the robot's text, 2 in the module's, 0 nowhere
abbrev pub part_reply : Place → PartReply
part_reply (place.Robot start size) = record { text = 1; start = start; length = size }
part_reply (place.Module start size) = record { text = 2; start = start; length = size }
part_reply place.Neither = record { text = 0; start = 0; length = 0 }

-- what the program prints: how many bytes were written
abbrev pub report_reply : Reported → ReportReply
report_reply (report.Written m) = record { cause = 0; at = 0; length = m }
report_reply (report.Refused cause at) = record { cause = cause_number cause; at = at; length = 0 }

-- reading back: how many letters either string has; `part` is 1 with a refusal of the grammar's text, 2 with one of the lines or a row
abbrev pub read_back_reply : ReadBack → ReadBackReply
read_back_reply (back.Read l r) = record { cause = 0; at = 0; part = 0; left = l; right = r }
read_back_reply (back.GrammarRefused cause at) = record { cause = cause_number cause; at = at; part = 1; left = 0; right = 0 }
read_back_reply (back.Refused cause at) = record { cause = cause_number cause; at = at; part = 2; left = 0; right = 0 }

-- document 02, [12]: 1 no tree, 2 one with the number of its rules, 3 several; 0 with a refusal
abbrev pub trees_reply : TreesFound → TreesReply
trees_reply trees.Nothing = record { cause = 0; at = 0; found = 1; count = 0 }
trees_reply (trees.One rules) = record { cause = 0; at = 0; found = 2; count = rules }
trees_reply trees.Several = record { cause = 0; at = 0; found = 3; count = 0 }
trees_reply (trees.Refused cause at) = record { cause = cause_number cause; at = at; found = 0; count = 0 }

-- the entries of the work row for it
abbrev pub trees_room_reply : TreesRoom → TreesRoomReply
trees_room_reply (workRow.Entries e) = record { cause = 0; at = 0; entries = e }
trees_room_reply (workRow.Refused cause at) = record { cause = cause_number cause; at = at; entries = 0 }

-- document 02, [13]: a new draft, and each step
abbrev pub draft_reply : DraftAnswer → DraftReply
draft_reply edit.Done = record { cause = 0; at = 0 }
draft_reply (edit.Refused cause at) = record { cause = cause_number cause; at = at }

-- t, n, the number of rules, the entries of their table and Q
abbrev pub draft_counts_reply : DraftCounts → DraftCountsReply
draft_counts_reply (counts.Counts t n r e q) = record { cause = 0; at = 0; terminals = t; nonterminals = n; rules = r; entries = e; states = q }
draft_counts_reply (counts.Refused cause at) = record { cause = cause_number cause; at = at; terminals = 0; nonterminals = 0; rules = 0; entries = 0; states = 0 }

-- where the table begins in the row, and its entries
abbrev pub draft_table_reply : TablePlace → DraftTableReply
draft_table_reply (tablePlace.Stands s e) = record { cause = 0; at = 0; start = s; entries = e }
draft_table_reply (tablePlace.Refused cause at) = record { cause = cause_number cause; at = at; start = 0; entries = 0 }

-- document 02, [14]: 1 no plan, 2 the plan with the number of its rules; 0 with a refusal
abbrev pub plan_reply : PlanRead → PlanReply
plan_reply plan.Nothing = record { cause = 0; at = 0; found = 1; count = 0 }
plan_reply (plan.Plan rules) = record { cause = 0; at = 0; found = 2; count = rules }
plan_reply (plan.Refused cause at) = record { cause = cause_number cause; at = at; found = 0; count = 0 }
