-- `text_read::keeping::keep_rules` meets its contract: the rules that are kept are the first of those that are read. Assumes nothing.
use native.Mathlib.Omega.{arith}
use mathlib.Core.Path.{sym}
use Prim.Native.Nat.{ℕ}
use mathlib.Core.List.{List}
use lib.Seq.{length-take-le}
use Rattle.text_read.proofs.Whole.{ready_rules, ready_refused, ready_told, told-rules, told_fault}
use Rattle.text_read.proofs.keeping.keep_rules.Goals as goal
use Rattle.text_read.proofs.keeping.keep_rules.Lts as lts
use Rattle.text_read.proofs.keeping.keep_rules.Reads as reads
use Rattle.text_read.proofs.keeping.keep_rules.Tie as tie

abbrev Place-After-read_rules : Type 0
Place-After-read_rules = lts.After-read_rules tie.the-claims reads.Pre reads.Post

-- the row after the rule lines
abbrev row : Place-After-read_rules → List ℕ
row c = c.read_rules.new.row

pub overflow_add-m : goal.overflow_add-m
overflow_add-m c = let h = c.requires.heads in omega (arith, h.terminals-most, h.nonterminals-most)

pub slice_bounds-read_rules-end : goal.slice_bounds-read_rules-end
slice_bounds-read_rules-end c = sym (length-take-le _ _ c.requires.starts-room)

pub slice_bounds-read_rules-end-2 : goal.slice_bounds-read_rules-end-2
slice_bounds-read_rules-end-2 c = sym (length-take-le _ _ c.requires.lengths-room)

pub read_rules-requires : goal.read_rules-requires
read_rules-requires c = let a = c.args in
    (ready_rules a.text.now a.from a.t a.n a.starts.now a.lengths.now a.links.now a.row.now c.requires, omega (arith, c.requires.begins, c.requires.heads.ends))

pub returns-in-Fault : goal.returns-in-Fault
returns-in-Fault c = let a = c.args in ready_refused a.text.now a.from a.t a.n a.starts.now a.lengths.now a.links.now a.row.now c.requires c.in-Fault.cause c.in-Fault.at
    (told_fault _ (row c.before.before.before.before) c.read_rules.result c.in-Fault.cause c.in-Fault.at c.in-Fault.is c.read_rules.ensures)

pub returns-in-Entries : goal.returns-in-Entries
returns-in-Entries c = let a = c.args in ready_told a.text.now a.from a.t a.n a.starts.now a.lengths.now a.links.now a.row.now c.requires (row c.before.before.before.before) c.in-Entries.end
    (told-rules _ (row c.before.before.before.before) c.read_rules.result c.in-Entries.end c.in-Entries.is c.read_rules.ensures)
