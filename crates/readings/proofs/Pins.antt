-- Small closed cases of the definitions: words and lines, and each way in which lines are refused. An edit of a definition in specs/
-- fails here. Assumes nothing.
use mathlib.Core.Path.{◌≡◌, refl}
use mathlib.Core.List.{List, [], ◌∷◌}
use Prim.Native.Nat.{ℕ}
use Prim.Native.Char.{code}
use Prim.Native.String.{String, [] as empty, ◌∷◌ as ◌then◌}
use Rattle.grammar.specs.Limits.{byte_limits}
use Rattle.grammar.specs.Refusal.{Answer, done, refused, refuse_unless, and_then, malformed, name_unknown}
use Rattle.automaton.specs.Strings.{Letter, opening, closing, symbol}
use Rattle.text.specs.Pieces.{split_on, join, led_by, ended_by}
use Rattle.text.specs.Names.{is_name_byte, all, is_name, folded, same_name, place}
use Rattle.text.specs.Numbers.{decimal_to, number_from, is_decimal}
use Rattle.text.specs.Keys.{value_of}
use Rattle.text.specs.Read.{refuse_none, number_of, is_known, code_of, symbol_of, whole_line}
use Rattle.text.specs.Spelling.{spelling}
use Rattle.text.specs.Print.{name_of}
use Rattle.readings.specs.Readings.{words, reading_lines, rule_number, word_of, words_of, pieces_of, read_words, read_strings}
use Rattle.readings.specs.Spelling.{spelled_word, spelled_readings}
use Rattle.readings.specs.Letters.{letter_number}

-- the bytes of an ASCII text
bytes : String → List ℕ
bytes empty = []
bytes (c then s) = code c ∷ bytes s

-- the grammar S → a S a; S → a has two rules, one terminal and one nonterminal
names : List (List ℕ)
unfolding bytes
names = bytes "a" ∷ bytes "S" ∷ []

-- what lines say there, and the lines of strings
read : String → Answer (List Letter × List Letter)
unfolding bytes names read_strings read_words pieces_of words_of word_of rule_number is_decimal number_from value_of whole_line refuse_none is_known
    number_of code_of place same_name folded is_name is_name_byte all split_on refuse_unless and_then
read lines = read_strings byte_limits 1 2 names (bytes lines)

print : List Letter → List Letter → List ℕ
unfolding names reading_lines words join led_by ended_by name_of symbol_of decimal_to
print u v = reading_lines byte_limits 1 names u v

spell : List (List ℕ) → String → List ℕ
unfolding read spelled_readings spelled_word spelling join led_by
spell names lines = spelled_readings names (bytes lines)

-- the readings' example
left : List Letter
left = opening 0 ∷ opening 2 ∷ symbol 1 ∷ closing 2 ∷ symbol 1 ∷ closing 1 ∷ closing 0 ∷ []

right : List Letter
right = opening 0 ∷ opening 1 ∷ symbol 1 ∷ opening 2 ∷ symbol 1 ∷ closing 2 ∷ closing 0 ∷ []

example : print left right ≡ bytes "left=(0 (2 a )2 a )1 )0\nright=(0 (1 a (2 a )2 )0\n"
unfolding print left right bytes
example = refl

back : read "left=(0 (2 a )2 a )1 )0\nright=(0 (1 a (2 a )2 )0\n" ≡ done (left, right)
unfolding read left right
back = refl

-- empty strings, a nonterminal, two digits
empty_strings : read "left=\nright=\n" ≡ done ([], [])
unfolding read
empty_strings = refl

-- a name in another case is the same name, and is printed as it is declared; keys are no names
other_case : (read "left=A s\nright=a\n" ≡ done (symbol 1 ∷ symbol 128 ∷ [], symbol 1 ∷ []))
    × (print (symbol 1 ∷ symbol 128 ∷ []) (symbol 1 ∷ []) ≡ bytes "left=a S\nright=a\n")
    × (read "Left=a\nright=\n" ≡ refused malformed 1)
    × (read "left=a\nRight=\n" ≡ refused malformed 2)
unfolding read print
other_case = (refl, refl, refl, refl)

-- lines in declared spelling: names take it; openings and closings, keys, names that are not declared and further lines stay
spelled-lines : (spell names "left=(0 A s )0\nright=a B\n" ≡ bytes "left=(0 a S )0\nright=a B\n")
    × (spell (bytes "LEFT" ∷ []) "left=left\nright=Left left\nleft=left\n" ≡ bytes "left=LEFT\nright=LEFT LEFT\nleft=left\n")
    × (spell names "Left=A\nright=A" ≡ bytes "Left=A\nright=a")
    × (spell names "left=A" ≡ bytes "left=A")
unfolding spell
spelled-lines = (refl, refl, refl, refl)

nonterminal : read "left=S\nright=\n" ≡ done (symbol 128 ∷ [], [])
unfolding read
nonterminal = refl

two_digits : print (opening 10 ∷ []) (closing 100 ∷ []) ≡ bytes "left=(10\nright=)100\n"
unfolding print bytes
two_digits = refl

-- 16 at 1: no line, no end, another key, a leading zero, no digit, a rule that the grammar lacks, two spaces, a space at an end
no_line : read "" ≡ refused malformed 1
unfolding read
no_line = refl

no_end : read "left=" ≡ refused malformed 1
unfolding read
no_end = refl

other_key : read "right=\nleft=\n" ≡ refused malformed 1
unfolding read
other_key = refl

leading_zero : read "left=(01\nright=\n" ≡ refused malformed 1
unfolding read
leading_zero = refl

two_zeros : read "left=)00\nright=\n" ≡ refused malformed 1
unfolding read
two_zeros = refl

no_digit : read "left=(\nright=\n" ≡ refused malformed 1
unfolding read
no_digit = refl

no_rule : read "left=(3\nright=\n" ≡ refused malformed 1
unfolding read
no_rule = refl

two_spaces : read "left=a  a\nright=\n" ≡ refused malformed 1
unfolding read
two_spaces = refl

space-first : read "left= a\nright=\n" ≡ refused malformed 1
unfolding read
space-first = refl

-- 17 at 1; within a line 16 comes before 17; line 1 comes before line 2
unknown : read "left=b\nright=\n" ≡ refused name_unknown 1
unfolding read
unknown = refl

malformed-first : read "left=b (\nright=\n" ≡ refused malformed 1
unfolding read
malformed-first = refl

line-one-first : read "left=b\nright=(\n" ≡ refused name_unknown 1
unfolding read
line-one-first = refl

-- line 2: missing, without its end, anything past it, then its words
no_second : read "left=\n" ≡ refused malformed 2
unfolding read
no_second = refl

no_second-end : read "left=\nright=" ≡ refused malformed 2
unfolding read
no_second-end = refl

third_line : read "left=\nright=\n\n" ≡ refused malformed 2
unfolding read
third_line = refl

past-before_unknown : read "left=\nright=b\na" ≡ refused malformed 2
unfolding read
past-before_unknown = refl

unknown_second : read "left=\nright=b\n" ≡ refused name_unknown 2
unfolding read
unknown_second = refl

-- entries: kind and number
entries : (letter_number (opening 2) ≡ 65538) × (letter_number (closing 0) ≡ 131072) × (letter_number (symbol 128) ≡ 196736)
entries = (refl, refl, refl)
