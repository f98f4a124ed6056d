-- `text_write::put::put_led` meets its contract: the names from the index on are still to come. Assumes nothing.
use Rattle.std.proofs.Common.{[], ◌∷◌, refl, get_or, arith}
use Rattle.text.specs.Spelled.{spelled}
use Rattle.text_write.proofs.Filling.{filling_room, filling_ran, filling_done}
use Rattle.text_write.proofs.LentLaws.{names_count}
use Rattle.text_write.proofs.PutLaws.{led-turn, led-end}
use Rattle.text_write.proofs.put.put_led.Goals as goal

pub put_byte-j-requires : goal.put_byte-j-requires
put_byte-j-requires c = let a = c.args in
    let next = led-turn (spelled a.bytes.now a.starts.now a.lengths.now) c.loop-i.i a.to c.loop-i-test.true
    (omega (arith, names_count c.requires.0, c.requires.2)) in
    omega (arith, filling_room (44 ∷ []) _ next c.loop-i.invariant)

pub put_name-j-requires : goal.put_name-j-requires
put_name-j-requires c = let a = c.args in
    let names = spelled a.bytes.now a.starts.now a.lengths.now in
    let next = led-turn names c.loop-i.i a.to c.loop-i-test.true (omega (arith, names_count c.requires.0, c.requires.2)) in
    let comma = filling_ran (44 ∷ []) _ next c.put_byte-j.ensures c.loop-i.invariant in (
      c.requires.0,
      omega (arith, c.requires.2),
      filling_room (get_or names c.loop-i.i []) _ refl comma,
    )

pub loop-i-preserved : goal.loop-i-preserved
loop-i-preserved c = let a = c.args in
    let names = spelled a.bytes.now a.starts.now a.lengths.now in
    let next = led-turn names c.loop-i.i a.to c.loop-i-test.true (omega (arith, names_count c.requires.0, c.requires.2)) in
    let comma = filling_ran (44 ∷ []) _ next c.put_byte-j.ensures c.loop-i.invariant in
    filling_ran (get_or names c.loop-i.i []) _ refl c.put_name-j.ensures comma

pub returns : goal.returns
returns c = let a = c.args in
    filling_done (led-end (spelled a.bytes.now a.starts.now a.lengths.now) c.loop-i.i a.to (omega (arith, c.requires.1)) c.loop-i-test.false)
    c.loop-i.invariant
