-- `readings_read::pieces::name` meets its contract: no name, an unknown one, or the code of its number. Assumes nothing.
use native.Mathlib.Omega.{arith}
use mathlib.Core.Path.{◌≡◌, sym, ap, ◌∙◌}
use mathlib.Core.Bool.{true}
use mathlib.Core.List.{List}
use Prim.Native.Nat.{ℕ, ◌+◌, ◌*◌}
use lib.ListN.{length}
use Rattle.text.specs.Names.{is_name}
use Rattle.text.specs.Spelled.{spelled}
use Rattle.text.proofs.Spans.{length-spelled}
use Rattle.readings.specs.Letters.{kind_unit}
use Rattle.std.specs.Prelude.{Ok}
use Rattle.readings_read.proofs.Words.{name_bad, name_unknown_lem, name-known}
use Rattle.readings_read.proofs.pieces.name.Goals as goal
use Rattle.readings_read.proofs.pieces.name.Lts as lts
use Rattle.readings_read.proofs.pieces.name.Reads as reads
use Rattle.readings_read.proofs.pieces.name.Tie as tie

abbrev Start : Type 0
Start = lts.Start tie.the-claims reads.Pre reads.Post

abbrev Place-After-find : Type 0
Place-After-find = lts.After-find tie.the-claims reads.Pre reads.Post

-- the grammar's names
abbrev names : Start → List (List ℕ)
names e = spelled e.args.text.now e.args.starts.now e.args.lengths.now

as_many : (e : Start) → length (names e) ≡ length e.args.starts.now
as_many e = length-spelled e.args.text.now e.args.starts.now e.args.lengths.now e.requires.0.spans.paired

-- what is looked up is a name
good : (c : Place-After-find) → is_name c.args.x.now ≡ true
good c = sym c.is_name.ensures ∙ c.if-is_name.true

pub returns-then-starts-i : goal.returns-then-starts-i
returns-then-starts-i c = sym (name_unknown_lem c.args.t (names c.before.before.before.before.before.before.before.before.before.before) c.args.x.now (good c.before.before) c.find-i.result c.find-i.ensures
    (omega (arith, as_many c.before.before.before.before.before.before.before.before.before.before, c.if-starts-i.true)))

pub returns-then-is_name : goal.returns-then-is_name
returns-then-is_name c = ap (λ n. Ok (3 * kind_unit + n)) c.code_of.ensures
    ∙ sym (name-known c.args.t (names c.before.before.before.before.before.before.before.before.before.before.before) c.args.x.now (good c.before.before.before) c.find-i.result c.find-i.ensures
    (omega (arith, as_many c.before.before.before.before.before.before.before.before.before.before.before, c.if-starts-i.false)))

pub returns : goal.returns
returns c = sym (name_bad c.args.t (names c.before.before.before.before.before.before.before.before) c.args.x.now (sym c.is_name.ensures ∙ c.if-is_name.false))
