-- `readings_read::reading::check_lines` meets its contract: the first line read; the rest is that of `second_line`. Assumes nothing.
use Prim.Native.Nat.{ℕ}
use mathlib.Core.List.{List}
use Rattle.text.specs.Spelled.{spelled}
use Rattle.names.specs.Found.{part}
use Rattle.readings.specs.Readings.{left_key}
use Rattle.readings_read.proofs.Sayings.{told-said, told_fault}
use Rattle.readings_read.proofs.Both.{first-missing, first_fault, first_said}
use Rattle.readings_read.proofs.reading.check_lines.Goals as goal
use Rattle.readings_read.proofs.reading.check_lines.Lts as lts
use Rattle.readings_read.proofs.reading.check_lines.Reads as reads
use Rattle.readings_read.proofs.reading.check_lines.Tie as tie

abbrev Start : Type 0
Start = lts.Start tie.the-claims reads.Pre reads.Post

-- the grammar's names
abbrev names : Start → List (List ℕ)
names e = spelled e.args.text.now e.args.starts.now e.args.lengths.now

pub returns-then-lines-e : goal.returns-then-lines-e
returns-then-lines-e c = let a = c.args in
    first-missing a.t a.count (names c.before.before.before.before.before.before.before.before) a.lines.now c.find-e.result c.find-e.ensures.at c.if-lines-e.true

pub second_line-requires : goal.second_line-requires
second_line-requires c = let a = c.args in (
  c.requires,
  first_said a.t a.count (names c.before.before.before.before.before.before.before.before.before.before.before.before.before) a.lines.now c.find-e.result c.find-e.ensures.at c.if-lines-e.false c.in-Said.start c.in-Said.left
      (told-said a.t a.count (names c.before.before.before.before.before.before.before.before.before.before.before.before.before) 1 left_key (part 0 c.find-e.result a.lines.now) c.check_line.result c.in-Said.start c.in-Said.left c.in-Said.is c.check_line.ensures),
)

pub returns-in-Fault : goal.returns-in-Fault
returns-in-Fault c = let a = c.args in
    first_fault a.t a.count (names c.before.before.before.before.before.before.before.before.before.before.before.before.before) a.lines.now c.find-e.result c.find-e.ensures.at c.if-lines-e.false c.in-Fault.cause c.in-Fault.at
    (told_fault a.t a.count (names c.before.before.before.before.before.before.before.before.before.before.before.before.before) 1 left_key (part 0 c.find-e.result a.lines.now) c.check_line.result c.in-Fault.cause c.in-Fault.at c.in-Fault.is c.check_line.ensures)
