-- `readings_write::put_line` meets its contract: the key, the words, the end. Assumes nothing.
use mathlib.Core.Path.{refl}
use mathlib.Core.List.{List, [], ◌∷◌, ◌++◌}
use Prim.Native.Nat.{ℕ}
use Rattle.text.specs.Spelled.{spelled}
use Rattle.text_write.proofs.Filling.{Filling, filling_start, filling_ran, filling_last}
use Rattle.readings_write.specs.Clauses.{words_of, line_of}
use Rattle.readings_write.proofs.put_line.Goals as goal
use Rattle.readings_write.proofs.put_line.Lts as lts
use Rattle.readings_write.proofs.put_line.Reads as reads
use Rattle.readings_write.proofs.put_line.Tie as tie

abbrev Start : Type 0
Start = lts.Start tie.the-claims reads.Pre reads.Post

abbrev Place-After-put_bytes : Type 0
Place-After-put_bytes = lts.After-put_bytes tie.the-claims reads.Pre reads.Post

abbrev Place-After-put_words : Type 0
Place-After-put_words = lts.After-put_words tie.the-claims reads.Pre reads.Post

abbrev names : Start → List (List ℕ)
names s = spelled s.args.text.now s.args.starts.now s.args.lengths.now

abbrev said : Start → List ℕ
said s = words_of s.args.t (names s) s.args.letters.now

-- this is still to come
abbrev Still : Start → ℕ → List ℕ → List ℕ → Type 0
Still s j now rest =
    Filling s.args.at s.args.out.now (line_of s.args.t (names s) s.args.key.now s.args.letters.now) j now rest

after-key : (c : Place-After-put_bytes) →
    Still c.before.before.before.before.before.before.before.before c.put_bytes-i.result c.put_bytes-i.new.out (said c.before.before.before.before.before.before.before.before ++ (10 ∷ []))
after-key c =
    filling_ran c.args.key.now _ refl c.put_bytes-i.ensures (filling_start _ _ _ c.requires.1)

after-words : (c : Place-After-put_words) →
    Still c.before.before.before.before.before.before.before.before.before.before.before.before c.put_words-j.result c.put_words-j.new.out (10 ∷ [])
after-words c =
    filling_ran (said c.before.before.before.before.before.before.before.before.before.before.before.before) _ refl c.put_words-j.ensures (after-key c.before.before.before.before)

pub returns : goal.returns
returns c = filling_last c.put_byte.ensures (after-words c.before.before.before.before.before.before.before)
