-- `text_read::rules::take_codes` meets its contract: the names before the cursor are known and their codes put, those from it on are to come. Assumes nothing.
use native.Mathlib.Omega.{arith}
use mathlib.Core.Path.{◌≡◌, refl}
use Prim.Native.Nat.{ℕ, ◌+◌}
use mathlib.Core.List.{List, [], ◌∷◌}
use mathlib.Core.Bool.{true, false}
use lib.ListN.{length, drop, set}
use Rattle.text.specs.Pieces.{split_on}
use Rattle.text.specs.Spelled.{spelled}
use Rattle.text.proofs.Spans.{length-spelled}
use Rattle.names.specs.Found.{part}
use Rattle.names.proofs.Pieces.{piece_more, piece_last, piece_first}
use Rattle.text_read.proofs.Codes.{Looking, looking_start, looking_unknown, looking_more, looking_all, taken_none, taken-led}
use Rattle.text_read.proofs.rules.take_codes.Goals as goal
use Rattle.text_read.proofs.rules.take_codes.Lts as lts
use Rattle.text_read.proofs.rules.take_codes.Reads as reads
use Rattle.text_read.proofs.rules.take_codes.Tie as tie

abbrev Start : Type 0
Start = lts.Start tie.the-claims reads.Pre reads.Post goal.the-invariant-loop-t goal.the-decreases-loop-t

abbrev Place-After-put_entry : Type 0
Place-After-put_entry = lts.After-put_entry tie.the-claims reads.Pre reads.Post goal.the-invariant-loop-t goal.the-decreases-loop-t

-- the names
abbrev names : Start → List (List ℕ)
names e = spelled e.args.text.now e.args.starts.now e.args.lengths.now

as_many : (e : Start) → length (names e) ≡ length e.args.starts.now
as_many e = length-spelled e.args.text.now e.args.starts.now e.args.lengths.now e.requires.lexicon.spans.paired

-- the name at the cursor is known, its code is put, and `rest` follows
more : (c : Place-After-put_entry) → (rest : List (List ℕ)) → split_on 32 (drop c.loop-t.a c.args.r.now) ≡ part c.loop-t.a c.find-e.result c.args.r.now ∷ rest
    → (row : List ℕ) → row ≡ set c.loop-t.row c.loop-t.j c.code_of.result
    → Looking c.args.t (names c.before.before.before.before.before.before.before.before.before.before.before.before.before.before.before) (split_on 32 (drop 1 c.args.r.now)) c.args.at c.args.row.now (c.loop-t.j + 1) row rest
more c rest q row g =
    let a = c.args in
    looking_more a.t (names c.before.before.before.before.before.before.before.before.before.before.before.before.before.before.before) (split_on 32 (drop 1 a.r.now)) a.at a.row.now c.loop-t.j c.loop-t.row (split_on 32 (drop c.loop-t.a a.r.now)) c.loop-t.invariant.4
    (part c.loop-t.a c.find-e.result a.r.now) rest q c.find-i.result c.find-i.ensures
    (omega (arith, as_many c.before.before.before.before.before.before.before.before.before.before.before.before.before.before.before, c.if-m-i.false)) c.code_of.result c.code_of.ensures row g

pub returns-then-n-eq0 : goal.returns-then-n-eq0
returns-then-n-eq0 c = let a = c.args in
    taken_none a.t (names c.before.before.before.before.before.before.before.before) a.r.now a.at a.row.now c.if-n-eq0.true

pub loop-t-init : goal.loop-t-init
loop-t-init c = let a = c.args in
    (omega (arith, c.if-n-eq0.false), omega arith, omega (arith, c.if-n-eq0.false), omega arith, looking_start a.t (names c.before.before.before.before.before.before.before.before) (split_on 32 (drop 1 a.r.now)) a.at a.row.now)

pub returns-then-m-i : goal.returns-then-m-i
returns-then-m-i c = let a = c.args in
    let p = piece_first 32 a.r.now c.loop-t.a c.find-e.result c.loop-t.invariant.2 c.find-e.ensures.at in
    taken-led a.t (names c.before.before.before.before.before.before.before.before.before.before.before.before.before) a.r.now a.at a.row.now c.loop-t.row false c.loop-t.invariant.0 (c.requires.led c.loop-t.invariant.0)
    (looking_unknown a.t (names c.before.before.before.before.before.before.before.before.before.before.before.before.before) (split_on 32 (drop 1 a.r.now)) a.at a.row.now c.loop-t.j c.loop-t.row (split_on 32 (drop c.loop-t.a a.r.now)) c.loop-t.invariant.4
    (part c.loop-t.a c.find-e.result a.r.now) p.0 p.1 c.find-i.result c.find-i.ensures (omega (arith, as_many c.before.before.before.before.before.before.before.before.before.before.before.before.before, c.if-m-i.true)))

pub returns-then-n-e : goal.returns-then-n-e
returns-then-n-e c = let a = c.args in
    let q = piece_last 32 a.r.now c.loop-t.a c.find-e.result c.loop-t.invariant.2 c.find-e.ensures.at c.if-n-e.true in
    taken-led a.t (names c.before.before.before.before.before.before.before.before.before.before.before.before.before.before.before.before.before.before.before) a.r.now a.at a.row.now _ true c.loop-t.invariant.0 (c.requires.led c.loop-t.invariant.0)
    (looking_all a.t (names c.before.before.before.before.before.before.before.before.before.before.before.before.before.before.before.before.before.before.before) (split_on 32 (drop 1 a.r.now)) a.at a.row.now (c.loop-t.j + 1) _ [] (more c.before.before.before.before [] q _ c.put_entry.ensures) refl)

pub loop-t-preserved : goal.loop-t-preserved
loop-t-preserved c = let a = c.args in
    let q = piece_more 32 a.r.now c.loop-t.a c.find-e.result c.loop-t.invariant.2 c.find-e.ensures.at c.if-n-e.false in
    (c.loop-t.invariant.0, omega arith, omega arith, omega (arith, c.loop-t.invariant.3), more c.before.before.before.before (split_on 32 (drop (c.find-e.result + 1) a.r.now)) q _ c.put_entry.ensures)
