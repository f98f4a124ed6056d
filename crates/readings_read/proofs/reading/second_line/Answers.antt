-- `readings_read::reading::second_line` meets its contract: what `FirstSaid` leaves of the lines, with the second line read.
-- Assumes nothing.
use Prim.Native.Nat.{ℕ, ◌+◌}
use mathlib.Core.List.{List}
use Rattle.text.specs.Spelled.{spelled}
use Rattle.names.specs.Found.{part}
use Rattle.readings.specs.Readings.{right_key}
use Rattle.readings_read.specs.Lines.{SaysAt}
use Rattle.readings_read.proofs.Sayings.{told-said, told_fault}
use Rattle.readings_read.proofs.Both.{second-missing, second_past, second_fault, second-said}
use Rattle.readings_read.proofs.reading.second_line.Goals as goal
use Rattle.readings_read.proofs.reading.second_line.Lts as lts
use Rattle.readings_read.proofs.reading.second_line.Reads as reads
use Rattle.readings_read.proofs.reading.second_line.Tie as tie

abbrev Start : Type 0
Start = lts.Start tie.the-claims reads.Pre reads.Post

abbrev Place-Past-After-known_told2 : Type 0
Place-Past-After-known_told2 = lts.Past-After-known_told2 tie.the-claims reads.Pre reads.Post

-- the grammar's names
abbrev names : Start → List (List ℕ)
names e = spelled e.args.text.now e.args.starts.now e.args.lengths.now

-- the second line says a string
says : (k : Place-Past-After-known_told2) → SaysAt k.args.t k.args.count (names k.before.before.before.before.before.before.before.before.before.before.before.before.before) 2 right_key (part (k.args.end + 1) k.find-e.result k.args.lines.now) k.in-Said.start k.in-Said.count
says k = told-said k.args.t k.args.count (names k.before.before.before.before.before.before.before.before.before.before.before.before.before) 2 right_key (part (k.args.end + 1) k.find-e.result k.args.lines.now)
    k.check_line.result k.in-Said.start k.in-Said.count k.in-Said.is k.check_line.ensures

pub returns-then-lines-e : goal.returns-then-lines-e
returns-then-lines-e c = let a = c.args in
    second-missing a.t a.count (names c.before.before.before.before.before.before.before.before) a.lines.now a.first a.end a.left c.requires.1 c.find-e.result c.find-e.ensures.at c.if-lines-e.true

pub returns-then-e-lines : goal.returns-then-e-lines
returns-then-e-lines c = let a = c.args in
    second_past a.t a.count (names c.before.before.before.before.before.before.before.before.before) a.lines.now a.first a.end a.left c.requires.1 c.find-e.result c.find-e.ensures.at c.if-lines-e.false c.if-e-lines.true

pub returns-in-Fault : goal.returns-in-Fault
returns-in-Fault c = let a = c.args in
    second_fault a.t a.count (names c.before.before.before.before.before.before.before.before.before.before.before.before.before.before) a.lines.now a.first a.end a.left c.requires.1 c.find-e.result c.find-e.ensures.at
    c.if-lines-e.false c.if-e-lines.false c.in-Fault.cause c.in-Fault.at
    (told_fault a.t a.count (names c.before.before.before.before.before.before.before.before.before.before.before.before.before.before) 2 right_key (part (a.end + 1) c.find-e.result a.lines.now) c.check_line.result c.in-Fault.cause c.in-Fault.at c.in-Fault.is c.check_line.ensures)

pub returns-in-Said : goal.returns-in-Said
returns-in-Said c = let a = c.args in
    second-said a.t a.count (names c.before.before.before.before.before.before.before.before.before.before.before.before.before.before) a.lines.now a.first a.end a.left c.requires.1 c.find-e.result c.find-e.ensures.at
    c.if-lines-e.false c.if-e-lines.false c.in-Said.start c.in-Said.count (says c.before)
