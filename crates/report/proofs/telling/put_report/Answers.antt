-- `report::telling::put_report` meets its contract: the length, the reader, the states, the table. Assumes nothing.
use native.Mathlib.Omega.{arith}
use mathlib.Core.Path.{◌≡◌, ap, sym}
use Prim.Native.Nat.{ℕ, ◌+◌, ◌≤◌, ◌<◌}
use lib.ListN.{length, replicate, length-replicate}
use lib.Seq.{length-take-le}
use Rattle.grammar.specs.Limits.{limits}
use Rattle.grammar.specs.Refusal.{refused, buffer_too_short}
use Rattle.grammar.specs.declared.Cause.{Cause}
use Rattle.text.proofs.Enough.{Enough, rows-refused, ReadRows, read-rows}
use Rattle.text_write.proofs.Filling.{wrote_as}
use Rattle.report.specs.Report.{judge, report_of}
use Rattle.report.specs.Clauses.{refused_lines}
use Rattle.report.proofs.Sizes.{never_short}
use Rattle.report.proofs.Told.{long-text, text-refused, many_states}
use Rattle.report.proofs.Read.{refused_report, tellable, read_report}
use Rattle.report.proofs.telling.put_report.Goals as goal
use Rattle.report.proofs.telling.put_report.Lts as lts
use Rattle.report.proofs.telling.put_report.Reads as reads
use Rattle.report.proofs.telling.put_report.Tie as tie

abbrev Place-After-read_text : Type 0
Place-After-read_text = lts.After-read_text tie.the-claims reads.Pre reads.Post

abbrev Start : Type 0
Start = lts.Start tie.the-claims reads.Pre reads.Post

abbrev Place-Past-After-known_told : Type 0
Place-Past-After-known_told = lts.Past-After-known_told tie.the-claims reads.Pre reads.Post

abbrev Place-Past-After-known_told2 : Type 0
Place-Past-After-known_told2 = lts.Past-After-known_told2 tie.the-claims reads.Pre reads.Post

-- room for a table, and for all names
abbrev most_entries : ℕ
most_entries = limits.max_states + limits.max_rules

abbrev most_names : ℕ
most_names = limits.max_terminals + limits.max_nonterminals

-- the rows that are lent suffice
suffice : Enough (length (replicate {A = ℕ} most_entries 0)) (length (replicate {A = ℕ} most_names 0)) (length (replicate {A = ℕ} most_names 0))
suffice = record {
  entries = omega (arith, length-replicate {A = ℕ} most_entries 0);
  starts = omega (arith, length-replicate {A = ℕ} most_names 0);
  lengths = omega (arith, length-replicate {A = ℕ} most_names 0);
}

short : (k : Place-After-read_text) → length k.args.text.now ≤ 4096
short k = omega (arith, k.if-text-gt-PROGRAM_TEXT.false)

-- a refusal's lines, which have room
told : (s : Start) (cause : Cause) (at : ℕ) → judge s.args.text.now ≡ refused cause at → refused_lines cause at ≡ report_of s.args.text.now
told s cause at e = refused_report s.args.text.now cause at e

has_room : (s : Start) (cause : Cause) (at : ℕ) → judge s.args.text.now ≡ refused cause at → length (refused_lines cause at) ≤ length s.args.out.now
has_room s cause at e = omega (arith, ap length (told s cause at e), never_short s.args.text.now, s.requires)

too_long : (s : Start) → 4096 < length s.args.text.now → judge s.args.text.now ≡ refused buffer_too_short 0
too_long s h = long-text s.args.text.now h

-- the reader's refusal
stops : (c : Place-Past-After-known_told) → judge c.args.text.now ≡ refused c.in-Refused.cause c.in-Refused.at
stops c =
    text-refused c.args.text.now (short c.before.before.before.before) c.in-Refused.cause c.in-Refused.at
    (rows-refused _ _ _ _ suffice c.read_text-read.result c.read_text-read.new.table c.read_text-read.new.starts c.read_text-read.new.lengths c.read_text-read.ensures c.in-Refused.cause c.in-Refused.at c.in-Refused.is)

-- what it read: t, n, the table's entries and Q
abbrev terminals : Place-Past-After-known_told2 → ℕ
terminals c = c.in-Read.terminals

abbrev nonterminals : Place-Past-After-known_told2 → ℕ
nonterminals c = c.in-Read.nonterminals

abbrev entries : Place-Past-After-known_told2 → ℕ
entries c = c.in-Read.entries

abbrev states : Place-Past-After-known_told2 → ℕ
states c = c.in-Read.states

rows : (c : Place-Past-After-known_told2) →
    ReadRows c.args.text.now (terminals c) (nonterminals c) (entries c) (states c) c.read_text-read.new.table c.read_text-read.new.starts c.read_text-read.new.lengths
rows c =
    read-rows _ _ _ _ suffice c.read_text-read.result c.read_text-read.new.table c.read_text-read.new.starts c.read_text-read.new.lengths c.read_text-read.ensures
    (terminals c) (nonterminals c) (entries c) (states c) c.in-Read.is

many : (c : Place-Past-After-known_told2) → 48 < states c → judge c.args.text.now ≡ refused buffer_too_short 0
many c h =
    let r = rows c in
    many_states c.args.text.now (short c.before.before.before.before) r.source r.checked (omega (arith, r.states, h))

pub put_refused-requires : goal.put_refused-requires
put_refused-requires c = has_room c.before.before.before.before.before buffer_too_short 0 (too_long c.before.before.before.before.before (omega (arith, c.if-text-gt-PROGRAM_TEXT.true)))

pub returns-then-text-gt-PROGRAM_TEXT : goal.returns-then-text-gt-PROGRAM_TEXT
returns-then-text-gt-PROGRAM_TEXT c = wrote_as (told c.before.before.before.before.before.before.before.before buffer_too_short 0 (too_long c.before.before.before.before.before.before.before.before (omega (arith, c.if-text-gt-PROGRAM_TEXT.true)))) c.put_refused.ensures

pub put_refused-requires-in-Refused : goal.put_refused-requires-in-Refused
put_refused-requires-in-Refused c = has_room c.before.before.before.before.before.before.before.before.before.before.before.before.before _ _ (stops c.before.before)

pub put_refused-requires-then-states-gt-PROGRAM_STATES : goal.put_refused-requires-then-states-gt-PROGRAM_STATES
put_refused-requires-then-states-gt-PROGRAM_STATES c = has_room c.before.before.before.before.before.before.before.before.before.before.before.before.before.before buffer_too_short 0 (many c.before.before.before c.if-states-gt-PROGRAM_STATES.true)

pub returns-then-states-gt-PROGRAM_STATES : goal.returns-then-states-gt-PROGRAM_STATES
returns-then-states-gt-PROGRAM_STATES c = wrote_as (told c.before.before.before.before.before.before.before.before.before.before.before.before.before.before.before.before.before buffer_too_short 0 (many c.before.before.before.before.before.before c.if-states-gt-PROGRAM_STATES.true)) c.put_refused-then-states-gt-PROGRAM_STATES.ensures

pub overflow_add-m : goal.overflow_add-m
overflow_add-m c = let r = rows c.before.before in
    omega (arith, r.well.terminals-most, r.well.nonterminals-most, r.terminals, r.nonterminals)

pub slice_bounds-table-end : goal.slice_bounds-table-end
slice_bounds-table-end c = omega (arith, (rows c.before.before.before).table_fits, c.read_text-read.auto.table, length-replicate {A = ℕ} most_entries 0)

pub slice_bounds-put_table-end : goal.slice_bounds-put_table-end
slice_bounds-put_table-end c = sym (length-take-le _ _ (rows c.before.before.before.before).table_fits)

pub slice_bounds-starts-end : goal.slice_bounds-starts-end
slice_bounds-starts-end c = omega (arith, (rows c.before.before.before.before).starts_fits, c.read_text-read.auto.starts, length-replicate {A = ℕ} most_names 0)

pub slice_bounds-put_table-end-in-Read : goal.slice_bounds-put_table-end-in-Read
slice_bounds-put_table-end-in-Read c = sym (length-take-le _ _ (rows c.before.before.before.before.before).starts_fits)

pub slice_bounds-lengths-end : goal.slice_bounds-lengths-end
slice_bounds-lengths-end c = omega (arith, (rows c.before.before.before.before.before).lengths_fits, c.read_text-read.auto.lengths, length-replicate {A = ℕ} most_names 0)

pub slice_bounds-put_table-end-in-Read-2 : goal.slice_bounds-put_table-end-in-Read-2
slice_bounds-put_table-end-in-Read-2 c = sym (length-take-le _ _ (rows c.before.before.before.before.before.before).lengths_fits)

pub put_table-requires : goal.put_table-requires
put_table-requires c = (tellable _ _ _ _ _ _ _ _ (rows c.before.before.before.before.before.before) c.if-states-gt-PROGRAM_STATES.false, c.requires)

pub returns-in-Refused : goal.returns-in-Refused
returns-in-Refused c = wrote_as (told c.before.before.before.before.before.before.before.before.before.before.before.before.before.before.before.before _ _ (stops c.before.before.before.before.before)) c.put_refused-in-Refused.ensures

pub returns-else-states-gt-PROGRAM_STATES : goal.returns-else-states-gt-PROGRAM_STATES
returns-else-states-gt-PROGRAM_STATES c = wrote_as (read_report _ _ _ _ _ _ _ _ (rows c.before.before.before.before.before.before.before.before.before) c.if-states-gt-PROGRAM_STATES.false (short c.before.before.before.before.before.before.before.before.before.before.before.before.before)) c.put_table.ensures
