-- `readings_write::put_words` meets its contract: no space stands before the first word. Assumes nothing.
use Rattle.text.specs.Spelled.{spelled}
use Rattle.text_write.proofs.Filling.{filling_start, filling_room, filling_ran, filling_last, filling_all, wrote_none}
use Rattle.readings_write.proofs.Words.{worded_at, worded_others, words-none, words-turn}
use Rattle.readings_write.proofs.put_words.Goals as goal

pub put_word-j-requires : goal.put_word-j-requires
put_word-j-requires c = let a = c.args in
    let turn = words-turn a.t (spelled a.text.now a.starts.now a.lengths.now) a.letters.now c.in-len1-up.len_at_least in
    (worded_at 0 c.requires.0 c.in-len1-up.len_at_least, filling_room _ _ turn (filling_start a.at a.out.now _ c.requires.1))

pub put_led-requires : goal.put_led-requires
put_led-requires c = let a = c.args in
    let turn = words-turn a.t (spelled a.text.now a.starts.now a.lengths.now) a.letters.now c.in-len1-up.len_at_least in
    (worded_others c.requires.0, filling_all (filling_ran _ _ turn c.put_word-j.ensures (filling_start _ _ _ c.requires.1)))

pub returns-in-empty : goal.returns-in-empty
returns-in-empty c = let a = c.args in
    wrote_none _ _ _ (words-none a.t (spelled a.text.now a.starts.now a.lengths.now) a.letters.now c.in-empty.len_below) c.requires.1

pub returns-in-len1-up : goal.returns-in-len1-up
returns-in-len1-up c = let a = c.args in
    let turn = words-turn a.t (spelled a.text.now a.starts.now a.lengths.now) a.letters.now c.in-len1-up.len_at_least in
    filling_last c.put_led.ensures (filling_ran _ _ turn c.put_word-j.ensures (filling_start _ _ _ c.requires.1))
