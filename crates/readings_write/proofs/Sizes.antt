-- How long the two lines of two strings are at most; so the room that is asked for is enough.
-- Assumes nothing.
use Prim.Native.Nat.{ℕ, suc, ◌+◌, ◌*◌, ◌≤◌, ◌<◌}
use mathlib.Core.Path.{◌≡◌, refl, ap}
use mathlib.Core.Bool.{true}
use mathlib.Core.List.{List, [], ◌∷◌, ◌++◌, map}
use native.Mathlib.Omega.{arith}
use lib.ListN.{length, get_or, length-append}
use Rattle.grammar.specs.Limits.{limits}
use Rattle.automaton.specs.Strings.{Letter, opening, closing, symbol}
use Rattle.text.specs.Pieces.{led_by, join, ended_by}
use Rattle.text.specs.Names.{all, is_name}
use Rattle.text.specs.Read.{symbol_of}
use Rattle.text.specs.Print.{name_of}
use Rattle.text.proofs.Pieces.{all-at}
use Rattle.text.proofs.Names.{name-size, right_number}
use Rattle.text.specs.Spelled.{spelled}
use Rattle.text_write.proofs.LentLaws.{names_count}
use Rattle.readings.specs.Readings.{word, words, reading_lines, Valid, AllValid}
use Rattle.readings.specs.Letters.{letter_from}
use Rattle.readings_write.specs.Clauses.{Letters, Sayable, word_room, keys_room, lines_of}
use Rattle.readings_write.proofs.Decimal.{decimal-most}

module _ (t n count : ℕ) (names : List (List ℕ)) (named : all is_name names ≡ true) (long : length names ≡ t + n)
    (few-terminals : t ≤ limits.max_terminals) (few-rules : count ≤ limits.max_rules) where
  word-most : (l : Letter) → Valid limits t n count l → length (word limits t names l) < word_room
  unfolding name_of
  word-most (opening i) h = omega (arith, decimal-most 2 i (omega arith))
  word-most (closing i) h = omega (arith, decimal-most 2 i (omega arith))
  word-most (symbol x) h =
      let i = symbol_of limits t x in
      let l : i < length names = omega (arith, (right_number limits t (omega arith) n x h).high, long) in
      omega (arith, (name-size (get_or names i []) (all-at is_name names i [] named l)).1)

  led-most : (u : List Letter) → AllValid limits t n count u
      → length (led_by 32 (map (word limits t names) u)) ≤ word_room * length u
  unfolding led_by
  led-most [] h = omega arith
  led-most (l ∷ u) h =
      omega (arith, length-append (word limits t names l) (led_by 32 (map (word limits t names) u)), word-most l h.0, led-most u h.1)

  words-most : (u : List Letter) → AllValid limits t n count u → length (words limits t names u) ≤ word_room * length u
  unfolding words join
  words-most [] h = omega arith
  words-most (l ∷ u) h =
      omega (arith, length-append (word limits t names l) (led_by 32 (map (word limits t names) u)), word-most l h.0, led-most u h.1)

  -- the two lines of two strings of the grammar's letters
  pub lines-most : (u v : List Letter) → AllValid limits t n count u → AllValid limits t n count v
      → length (reading_lines limits t names u v) ≤ word_room * (length u + length v) + keys_room
  unfolding reading_lines ended_by
  lines-most u v hu hv =
      let x = words limits t names u in
      let y = words limits t names v in
      omega (
        arith,
        length-append x (10 ∷ 114 ∷ 105 ∷ 103 ∷ 104 ∷ 116 ∷ 61 ∷ (y ++ (10 ∷ []))),
        length-append y (10 ∷ []),
        words-most u hu,
        words-most v hv,
      )

-- a row of letters is a string of letters
pub letters_valid : (t n count : ℕ) (letters : List ℕ) → Letters t n count letters
    → AllValid limits t n count (map letter_from letters)
letters_valid t n count [] h = tt
letters_valid t n count (x ∷ xs) h = (h 0 (omega arith), letters_valid t n count xs (λ i l. h (suc i) (omega arith)))

length-letters : (letters : List ℕ) → length (map letter_from letters) ≡ length letters
length-letters [] = refl
length-letters (x ∷ xs) = ap suc (length-letters xs)

-- the lines have room
pub lines-room : {t at : ℕ} {text starts lengths left right out : List ℕ} → Sayable t text starts lengths left right at out
    → at + length (lines_of t (spelled text starts lengths) left right) ≤ length out
lines-room {t} {text = text} {starts} {lengths} {left} {right} s =
    let n = s.names in
    omega (
      arith,
      s.room,
      length-letters left,
      length-letters right,
      lines-most t s.nonterminals s.rules (spelled text starts lengths) n.named (omega (arith, names_count n.rows, n.symbols))
          n.few-terminals n.few-rules (map letter_from left) (map letter_from right)
          (letters_valid t s.nonterminals s.rules left s.left-letters) (letters_valid t s.nonterminals s.rules right s.right-letters),
    )
