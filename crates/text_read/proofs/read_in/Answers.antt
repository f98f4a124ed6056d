-- `text_read::read_in` meets its contract: a refusal leaves the rows as they were; else the fronts of what is kept are copied. Assumes nothing.
use Rattle.std.proofs.Common.{ℕ, ◌≡◌, ◌+◌, List, sym, ◌∙◌, arith}
use lib.Seq.{length-take-le}
use Rattle.grammar.specs.Limits.{limits}
use Rattle.text.specs.Rules.{check_text}
use Rattle.text.specs.declared.TextRead.{TextRead}
use Rattle.text_read.specs.declared.TextKept.{TextKept}
use Rattle.text_read.specs.Texts.{ChecksText, TextIn, kept_read}
use Rattle.text_read.proofs.Whole.{kept-within, checks}
use Rattle.text_read.proofs.Written.{read-refused, entries-kept, starts-kept, lengths-kept, short-table, short-starts, short_lengths, read_all}
use Rattle.text_read.proofs.Rows.{copied}
use Rattle.text_read.proofs.read_in.Goals as goal

-- the answer but for 14
checked : (text row begins sizes : List ℕ) (kept : TextKept) (read : TextRead) → TextIn text kept row begins sizes → read ≡ kept_read kept row → ChecksText text read row begins sizes
checked text row begins sizes kept read i e = checks text row begins sizes i.names kept read i.lines e

pub check_kept-read-requires : goal.check_kept-read-requires
check_kept-read-requires c = kept-within c.args.text.now c.args.row.now c.args.kept c.requires.lines

pub returns-in_default : goal.returns-in_default
returns-in_default c = read-refused c.args.text.now c.args.table.now c.args.starts.now c.args.lengths.now c.args.row.now c.args.begins.now c.args.sizes.now c.check_kept-read.result
    (checked c.args.text.now c.args.row.now c.args.begins.now c.args.sizes.now c.args.kept c.check_kept-read.result c.requires c.check_kept-read.ensures) c.in_default.field-0 c.in_default.field-1 c.in_default.is

pub overflow_add-count : goal.overflow_add-count
overflow_add-count c = omega (
  arith,
  starts-kept (check_text limits c.args.text.now) c.args.row.now c.args.begins.now c.args.sizes.now c.check_kept-read.result
      (checked c.args.text.now c.args.row.now c.args.begins.now c.args.sizes.now c.args.kept c.check_kept-read.result c.requires c.check_kept-read.ensures) c.in-Read.terminals c.in-Read.nonterminals c.in-Read.entries c.in-Read.states c.in-Read.is,
)

pub returns-then-table-entries : goal.returns-then-table-entries
returns-then-table-entries c = short-table c.args.text.now c.args.table.now c.args.starts.now c.args.lengths.now c.args.row.now c.args.begins.now c.args.sizes.now c.check_kept-read.result
    (checked c.args.text.now c.args.row.now c.args.begins.now c.args.sizes.now c.args.kept c.check_kept-read.result c.requires c.check_kept-read.ensures) c.in-Read.terminals c.in-Read.nonterminals c.in-Read.entries c.in-Read.states c.in-Read.is c.if-table-entries.true

pub returns-then-starts-count : goal.returns-then-starts-count
returns-then-starts-count c = short-starts c.args.text.now c.args.table.now c.args.starts.now c.args.lengths.now c.args.row.now c.args.begins.now c.args.sizes.now c.check_kept-read.result
    (checked c.args.text.now c.args.row.now c.args.begins.now c.args.sizes.now c.args.kept c.check_kept-read.result c.requires c.check_kept-read.ensures) c.in-Read.terminals c.in-Read.nonterminals c.in-Read.entries c.in-Read.states c.in-Read.is c.if-starts-count.true

pub returns-then-lengths-count : goal.returns-then-lengths-count
returns-then-lengths-count c = short_lengths c.args.text.now c.args.table.now c.args.starts.now c.args.lengths.now c.args.row.now c.args.begins.now c.args.sizes.now c.check_kept-read.result
    (checked c.args.text.now c.args.row.now c.args.begins.now c.args.sizes.now c.args.kept c.check_kept-read.result c.requires c.check_kept-read.ensures) c.in-Read.terminals c.in-Read.nonterminals c.in-Read.entries c.in-Read.states c.in-Read.is c.if-lengths-count.true

pub slice_bounds-copy-end-6 : goal.slice_bounds-copy-end-6
slice_bounds-copy-end-6 c = sym (length-take-le _ _ (starts-kept (check_text limits c.args.text.now) c.args.row.now c.args.begins.now c.args.sizes.now c.check_kept-read.result
    (checked c.args.text.now c.args.row.now c.args.begins.now c.args.sizes.now c.args.kept c.check_kept-read.result c.requires c.check_kept-read.ensures) c.in-Read.terminals c.in-Read.nonterminals c.in-Read.entries c.in-Read.states c.in-Read.is))

pub copy-requires-2 : goal.copy-requires-2
copy-requires-2 c = length-take-le _ _ c.if-starts-count.false ∙ sym (length-take-le _ _ (starts-kept (check_text limits c.args.text.now) c.args.row.now c.args.begins.now c.args.sizes.now c.check_kept-read.result
    (checked c.args.text.now c.args.row.now c.args.begins.now c.args.sizes.now c.args.kept c.check_kept-read.result c.requires c.check_kept-read.ensures) c.in-Read.terminals c.in-Read.nonterminals c.in-Read.entries c.in-Read.states c.in-Read.is))

pub slice_bounds-copy-end-9 : goal.slice_bounds-copy-end-9
slice_bounds-copy-end-9 c = sym (length-take-le _ _ (lengths-kept (check_text limits c.args.text.now) c.args.row.now c.args.begins.now c.args.sizes.now c.check_kept-read.result
    (checked c.args.text.now c.args.row.now c.args.begins.now c.args.sizes.now c.args.kept c.check_kept-read.result c.requires c.check_kept-read.ensures) c.in-Read.terminals c.in-Read.nonterminals c.in-Read.entries c.in-Read.states c.in-Read.is))

pub copy-requires-3 : goal.copy-requires-3
copy-requires-3 c = length-take-le _ _ c.if-lengths-count.false ∙ sym (length-take-le _ _ (lengths-kept (check_text limits c.args.text.now) c.args.row.now c.args.begins.now c.args.sizes.now c.check_kept-read.result
    (checked c.args.text.now c.args.row.now c.args.begins.now c.args.sizes.now c.args.kept c.check_kept-read.result c.requires c.check_kept-read.ensures) c.in-Read.terminals c.in-Read.nonterminals c.in-Read.entries c.in-Read.states c.in-Read.is))

pub returns : goal.returns
returns c = read_all c.args.text.now c.args.table.now c.args.starts.now c.args.lengths.now c.args.row.now c.args.begins.now c.args.sizes.now c.check_kept-read.result
    (checked c.args.text.now c.args.row.now c.args.begins.now c.args.sizes.now c.args.kept c.check_kept-read.result c.requires c.check_kept-read.ensures) c.in-Read.terminals c.in-Read.nonterminals c.in-Read.entries c.in-Read.states c.in-Read.is
    c.if-table-entries.false c.if-starts-count.false c.if-lengths-count.false
    _ _ _
    (copied _ _ c.args.table.now c.in-Read.entries c.copy.ensures (sym (length-take-le _ _ (entries-kept (check_text limits c.args.text.now) c.args.row.now c.args.begins.now c.args.sizes.now c.check_kept-read.result
    (checked c.args.text.now c.args.row.now c.args.begins.now c.args.sizes.now c.args.kept c.check_kept-read.result c.requires c.check_kept-read.ensures) c.in-Read.terminals c.in-Read.nonterminals c.in-Read.entries c.in-Read.states c.in-Read.is))))
    (copied _ _ c.args.starts.now (c.in-Read.terminals + c.in-Read.nonterminals) c.copy-2.ensures (sym (length-take-le _ _ (starts-kept (check_text limits c.args.text.now) c.args.row.now c.args.begins.now c.args.sizes.now c.check_kept-read.result
    (checked c.args.text.now c.args.row.now c.args.begins.now c.args.sizes.now c.args.kept c.check_kept-read.result c.requires c.check_kept-read.ensures) c.in-Read.terminals c.in-Read.nonterminals c.in-Read.entries c.in-Read.states c.in-Read.is))))
    (copied _ _ c.args.lengths.now (c.in-Read.terminals + c.in-Read.nonterminals) c.copy-3.ensures (sym (length-take-le _ _ (lengths-kept (check_text limits c.args.text.now) c.args.row.now c.args.begins.now c.args.sizes.now c.check_kept-read.result
    (checked c.args.text.now c.args.row.now c.args.begins.now c.args.sizes.now c.args.kept c.check_kept-read.result c.requires c.check_kept-read.ensures) c.in-Read.terminals c.in-Read.nonterminals c.in-Read.entries c.in-Read.states c.in-Read.is))))
