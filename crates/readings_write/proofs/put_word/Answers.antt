-- `readings_write::put_word` meets its contract: the word is told by the letter's kind. Assumes nothing.
use mathlib.Core.Path.{◌≡◌, sym, subst}
use mathlib.Core.List.{List, [], ◌∷◌}
use Prim.Native.Nat.{ℕ, ◌+◌, ◌%◌, ◌≤◌}
use native.Mathlib.Omega.{arith}
use lib.ListN.{length, get_or}
use Rattle.grammar.specs.Limits.{limits}
use Rattle.text.specs.Numbers.{decimal}
use Rattle.text.specs.Spelled.{spelled}
use Rattle.text_write.proofs.Filling.{wrote_as}
use Rattle.readings.specs.Readings.{word}
use Rattle.readings.specs.Letters.{letter_from}
use Rattle.readings_write.proofs.Words.{opening-word, closing-word, symbol-word, Spelt, symbol-spelt}
use Rattle.readings_write.proofs.put_word.Goals as goal
use Rattle.readings_write.proofs.put_word.Lts as lts
use Rattle.readings_write.proofs.put_word.Reads as reads
use Rattle.readings_write.proofs.put_word.Tie as tie

abbrev Start : Type 0
Start = lts.Start tie.the-claims reads.Pre reads.Post

abbrev Place-Then1 : Type 0
Place-Then1 = lts.Then1 tie.the-claims reads.Pre reads.Post

abbrev Place-Then2 : Type 0
Place-Then2 = lts.Then2 tie.the-claims reads.Pre reads.Post

abbrev Place-Else2 : Type 0
Place-Else2 = lts.Else2 tie.the-claims reads.Pre reads.Post

abbrev Place-After-symbol : Type 0
Place-After-symbol = lts.After-symbol tie.the-claims reads.Pre reads.Post

-- the word to write
abbrev said : Start → List ℕ
said s = word limits s.args.t (spelled s.args.text.now s.args.starts.now s.args.lengths.now) (letter_from s.args.letter)

-- what it is has room
room : (s : Start) (w : List ℕ) → said s ≡ w → s.args.at + length w ≤ length s.args.out.now
room s w e = subst (λ (w : List ℕ). s.args.at + length w ≤ length s.args.out.now) e s.requires.1

is_opening : (c : Place-Then1) → said c.before.before.before.before.before ≡ 40 ∷ decimal (c.args.letter % 65536)
is_opening c = opening-word _ _ c.args.letter c.if-kind-eq-OPENING.true

is_closing : (c : Place-Then2) → said c.before.before.before.before.before.before ≡ 41 ∷ decimal (c.args.letter % 65536)
is_closing c = closing-word _ _ c.args.letter c.if-kind-eq-OPENING.false c.if-kind-eq-CLOSING.true

spelt : (c : Place-Else2) → let a = c.args in Spelt a.t (length a.starts.now) (a.letter % 65536)
spelt c =
    symbol-spelt c.args.letter c.requires.0 c.if-kind-eq-OPENING.false c.if-kind-eq-CLOSING.false

is_name_lem : (c : Place-After-symbol) →
    said c.before.before.before.before.before.before.before ≡ get_or (spelled c.args.text.now c.args.starts.now c.args.lengths.now) c.symbol-s.result []
is_name_lem c =
    symbol-word _ _ c.args.letter c.symbol-s.result c.if-kind-eq-OPENING.false
    c.if-kind-eq-CLOSING.false c.symbol-s.ensures

pub put_name-requires : goal.put_name-requires
put_name-requires c = (
  c.requires.0.names.rows,
  omega (arith, c.symbol-s.ensures, (spelt c.before.before.before).known),
  room c.before.before.before.before.before.before.before.before.before _ (is_name_lem c.before.before),
)

pub returns : goal.returns
returns c = wrote_as (sym (is_name_lem c.before.before.before.before.before)) c.put_name.ensures
