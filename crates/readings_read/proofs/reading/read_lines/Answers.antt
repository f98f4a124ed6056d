-- `readings_read::reading::read_lines` meets its contract: the lines' faults, 14, and both strings written. Assumes nothing.
use Prim.Native.Nat.{ℕ}
use mathlib.Core.List.{List}
use Rattle.text.specs.Spelled.{spelled}
use Rattle.readings_read.specs.Lines.{BothSaid}
use Rattle.readings_read.proofs.Sayings.{told-both, told-refused}
use Rattle.readings_read.proofs.Back.{back-refused, short-left, short-right, both-written}
use Rattle.readings_read.proofs.reading.read_lines.Goals as goal
use Rattle.readings_read.proofs.reading.read_lines.Lts as lts
use Rattle.readings_read.proofs.reading.read_lines.Reads as reads
use Rattle.readings_read.proofs.reading.read_lines.Tie as tie

abbrev Start : Type 0
Start = lts.Start tie.the-claims reads.Pre reads.Post

abbrev Place-Past-After-known_told2 : Type 0
Place-Past-After-known_told2 = lts.Past-After-known_told2 tie.the-claims reads.Pre reads.Post

-- the grammar's names
abbrev names : Start → List (List ℕ)
names e = spelled e.args.text.now e.args.starts.now e.args.lengths.now

-- both lines say strings
both : (k : Place-Past-After-known_told2) → BothSaid k.args.t k.args.count (names k.before.before.before.before.before.before.before.before.before) k.args.lines.now k.in-Said.first k.in-Said.first_end k.in-Said.m k.in-Said.second k.in-Said.second_end k.in-Said.n
both k = told-both k.args.t k.args.count (names k.before.before.before.before.before.before.before.before.before) k.args.lines.now k.check_lines.result k.in-Said.first k.in-Said.first_end k.in-Said.m k.in-Said.second k.in-Said.second_end k.in-Said.n
    k.in-Said.is k.check_lines.ensures

pub returns-then-left-m : goal.returns-then-left-m
returns-then-left-m c = let a = c.args in
    short-left a.t a.count (names c.before.before.before.before.before.before.before.before.before.before.before) a.lines.now a.left.now a.right.now
    c.in-Said.first c.in-Said.first_end c.in-Said.m c.in-Said.second c.in-Said.second_end c.in-Said.n (both c.before.before) c.if-left-m.true

pub returns-then-right-n : goal.returns-then-right-n
returns-then-right-n c = let a = c.args in
    short-right a.t a.count (names c.before.before.before.before.before.before.before.before.before.before.before.before) a.lines.now a.left.now a.right.now
    c.in-Said.first c.in-Said.first_end c.in-Said.m c.in-Said.second c.in-Said.second_end c.in-Said.n (both c.before.before.before) c.if-right-n.true

pub returns-in-Fault : goal.returns-in-Fault
returns-in-Fault c = let a = c.args in
    back-refused a.t a.count (names c.before.before.before.before.before.before.before.before.before.before) a.lines.now a.left.now a.right.now c.in-Fault.cause c.in-Fault.at
    (told-refused a.t a.count (names c.before.before.before.before.before.before.before.before.before.before) a.lines.now c.check_lines.result c.in-Fault.cause c.in-Fault.at c.in-Fault.is c.check_lines.ensures)

pub returns-else-right-n : goal.returns-else-right-n
returns-else-right-n c = let a = c.args in
    both-written a.t a.count (names c.before.before.before.before.before.before.before.before.before.before.before.before.before.before.before.before.before.before.before.before.before.before) a.lines.now a.left.now a.right.now
    c.in-Said.first c.in-Said.first_end c.in-Said.m c.in-Said.second c.in-Said.second_end c.in-Said.n (both c.before.before.before.before.before.before.before.before.before.before.before.before.before) c.if-left-m.false c.if-right-n.false
    c.put_value.new.row c.put_value-in-Said.new.row c.put_value.ensures c.put_value-in-Said.ensures
