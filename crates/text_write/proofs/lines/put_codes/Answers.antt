-- `text_write::lines::put_codes` meets its contract: the names of the codes from the index on are still to come. Assumes nothing.
use Rattle.std.proofs.Common.{[], ◌∷◌, refl, get_or, arith}
use Rattle.text.specs.Spelled.{spelled}
use Rattle.text_write.proofs.Filling.{filling_room, filling_ran, filling_done}
use Rattle.text_write.proofs.PutLaws.{codes-turn, codes-end}
use Rattle.text_write.proofs.lines.put_codes.Goals as goal

pub put_byte-j-requires : goal.put_byte-j-requires
put_byte-j-requires c = let a = c.args in
    let next = codes-turn a.t (spelled a.bytes.now a.starts.now a.lengths.now) a.codes.now c.loop-code.code-index c.symbol-s.result
    c.loop-code-test.true c.symbol-s.ensures in
    omega (arith, filling_room (32 ∷ []) _ next c.loop-code.invariant)

pub put_name-j-requires : goal.put_name-j-requires
put_name-j-requires c = let a = c.args in
    let names = spelled a.bytes.now a.starts.now a.lengths.now in
    let next = codes-turn a.t names a.codes.now c.loop-code.code-index c.symbol-s.result c.loop-code-test.true c.symbol-s.ensures in
    let space = filling_ran (32 ∷ []) _ next c.put_byte-j.ensures c.loop-code.invariant in (
      c.requires.0,
      omega (arith, c.symbol-s.ensures, (c.requires.1.each c.loop-code.code-index c.loop-code-test.true).1),
      filling_room (get_or names c.symbol-s.result []) _ refl space,
    )

pub loop-code-preserved : goal.loop-code-preserved
loop-code-preserved c = let a = c.args in
    let names = spelled a.bytes.now a.starts.now a.lengths.now in
    let next = codes-turn a.t names a.codes.now c.loop-code.code-index c.symbol-s.result c.loop-code-test.true c.symbol-s.ensures in
    let space = filling_ran (32 ∷ []) _ next c.put_byte-j.ensures c.loop-code.invariant in
    filling_ran (get_or names c.symbol-s.result []) _ refl c.put_name-j.ensures space

pub returns : goal.returns
returns c = let a = c.args in
    filling_done (codes-end a.t (spelled a.bytes.now a.starts.now a.lengths.now) a.codes.now c.loop-code.code-index c.loop-code-test.false)
    c.loop-code.invariant
