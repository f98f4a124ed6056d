-- `text_write::write_text` meets its contract: the refusal that is told, then 14 for an output shorter than the length that is told,
-- then the text. Assumes nothing.
use mathlib.Core.Path.{sym, ◌∙◌}
use Prim.Native.Nat.{ℕ}
use native.Mathlib.Omega.{arith}
use lib.Seq.{length-take-le}
use Rattle.text.specs.Promise.{LengthAnswer}
use Rattle.text.specs.declared.TextLength.TheVariants as told
use Rattle.text_write.proofs.TableLaws.{symbols-most}
use Rattle.text_write.proofs.WriteLaws.{ready, Told, told-bytes, write-refused, write-short, write_done}
use Rattle.text_write.proofs.write_text.Goals as goal
use Rattle.text_write.proofs.write_text.Lts as lts
use Rattle.text_write.proofs.write_text.Reads as reads
use Rattle.text_write.proofs.write_text.Tie as tie

abbrev Place-Past-After-known_told : Type 0
Place-Past-After-known_told = lts.Past-After-known_told tie.the-claims reads.Pre reads.Post

abbrev Place-Past-After-known_told2 : Type 0
Place-Past-After-known_told2 = lts.Past-After-known_told2 tie.the-claims reads.Pre reads.Post

-- the refusal that is told
faulty : (c : Place-Past-After-known_told) →
    let a = c.args in
    LengthAnswer a.t a.n a.table.now a.bytes.now a.starts.now a.lengths.now (told.Refused c.in-Refused.cause c.in-Refused.at)
faulty c = sym c.in-Refused.is ∙ c.written_length-told.ensures

-- the length that is told
abbrev size : Place-Past-After-known_told2 → ℕ
size c = c.in-Bytes.size

sized : (c : Place-Past-After-known_told2) →
    let a = c.args in
    LengthAnswer a.t a.n a.table.now a.bytes.now a.starts.now a.lengths.now (told.Bytes (size c))
sized c = sym c.in-Bytes.is ∙ c.written_length-told.ensures

bytes-told : (c : Place-Past-After-known_told2) →
    let a = c.args in
    Told a.t a.n a.table.now a.bytes.now a.starts.now a.lengths.now (size c)
bytes-told c =
    let a = c.args in
    told-bytes a.t a.n a.table.now a.bytes.now a.starts.now a.lengths.now (size c) (sized c)

pub returns-then-out-size : goal.returns-then-out-size
returns-then-out-size c = let a = c.args in
    write-short a.t a.n a.table.now a.bytes.now a.starts.now a.lengths.now a.out.now (size c.before.before) (sized c.before.before)
    (omega (arith, c.if-out-size.true))

pub overflow_add-m : goal.overflow_add-m
overflow_add-m c = let a = c.args in
    omega (arith, symbols-most a.t a.n a.table.now (bytes-told c.before.before).grammar (bytes-told c.before.before).passes)

pub slice_bounds-put_text-end : goal.slice_bounds-put_text-end
slice_bounds-put_text-end c = sym (length-take-le _ _ (bytes-told c.before.before.before).names.rows.starts-most)

pub slice_bounds-put_text-end-in-Bytes : goal.slice_bounds-put_text-end-in-Bytes
slice_bounds-put_text-end-in-Bytes c = sym (length-take-le _ _ (bytes-told c.before.before.before).names.rows.lengths-most)

pub put_text-end-requires : goal.put_text-end-requires
put_text-end-requires c = let a = c.args in
    let l = bytes-told c.before.before.before in
    let r = ready a.t a.n a.table.now a.bytes.now a.starts.now a.lengths.now l.grammar l.passes
    l.names in
    (r.rows, r.coded, r.terminals, omega (arith, l.size, c.if-out-size.false))

pub returns-in-Refused : goal.returns-in-Refused
returns-in-Refused c = let a = c.args in
    write-refused a.t a.n a.table.now a.bytes.now a.starts.now a.lengths.now a.out.now c.in-Refused.cause
    c.in-Refused.at (faulty c.before)

pub returns-else-out-size : goal.returns-else-out-size
returns-else-out-size c = let a = c.args in
    write_done a.t a.n a.table.now a.bytes.now a.starts.now a.lengths.now a.out.now (size c.before.before.before.before.before.before)
    (bytes-told c.before.before.before.before.before.before) (omega (arith, c.if-out-size.false)) _ _ c.put_text-end.ensures
