-- `readings_write::put_led` meets its contract: the words from the index on are still to come. Assumes nothing.
use Rattle.std.proofs.Common.{[], ◌∷◌, refl, arith}
use Rattle.text.specs.Spelled.{spelled}
use Rattle.text_write.proofs.Filling.{filling_room, filling_ran, filling_done}
use Rattle.readings_write.proofs.Words.{worded_at, led-turn, led-end}
use Rattle.readings_write.proofs.put_led.Goals as goal

pub put_byte-j-requires : goal.put_byte-j-requires
put_byte-j-requires c = let a = c.args in
    let next = led-turn a.t (spelled a.text.now a.starts.now a.lengths.now) a.letters.now c.loop-letter.letter-index c.loop-letter-test.true in
    omega (arith, filling_room (32 ∷ []) _ next c.loop-letter.invariant)

pub put_word-j-requires : goal.put_word-j-requires
put_word-j-requires c = let a = c.args in
    let next = led-turn a.t (spelled a.text.now a.starts.now a.lengths.now) a.letters.now c.loop-letter.letter-index c.loop-letter-test.true in
    let space = filling_ran (32 ∷ []) _ next c.put_byte-j.ensures c.loop-letter.invariant in
    (worded_at c.loop-letter.letter-index c.requires.0 c.loop-letter-test.true, filling_room _ _ refl space)

pub loop-letter-preserved : goal.loop-letter-preserved
loop-letter-preserved c = let a = c.args in
    let next = led-turn a.t (spelled a.text.now a.starts.now a.lengths.now) a.letters.now c.loop-letter.letter-index c.loop-letter-test.true in
    let space = filling_ran (32 ∷ []) _ next c.put_byte-j.ensures c.loop-letter.invariant in
    filling_ran _ _ refl c.put_word-j.ensures space

pub returns : goal.returns
returns c = let a = c.args in
    filling_done (led-end a.t (spelled a.text.now a.starts.now a.lengths.now) a.letters.now c.loop-letter.letter-index c.loop-letter-test.false)
    c.loop-letter.invariant
