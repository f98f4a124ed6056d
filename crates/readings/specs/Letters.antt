-- Letters as entries of a row, and back. Ours: document 02 names no form (docs/DECISIONS.md, 75). Assumes nothing.
use Rattle.std.specs.Prelude.{ℕ, ◌+◌, ◌*◌, ◌/◌, ◌%◌, eqb}
use Rattle.grammar.specs.Basics.{choose}
use Rattle.automaton.specs.Strings.{Letter, opening, closing, symbol}

-- an entry is 2^16 times the letter's kind plus its number: kind 1 is an opening, 2 a closing, 3 a symbol
abbrev pub kind_unit : ℕ
kind_unit = 65536

abbrev pub letter_number : Letter → ℕ
letter_number (opening i) = 1 * kind_unit + i
letter_number (closing i) = 2 * kind_unit + i
letter_number (symbol x) = 3 * kind_unit + x

abbrev pub of_kind : ℕ → ℕ → Letter
of_kind kind number = choose (eqb kind 1) (opening number) (choose (eqb kind 2) (closing number) (symbol number))

-- the letter of an entry that is a letter's
abbrev pub letter_from : ℕ → Letter
letter_from x = of_kind (x / kind_unit) (x % kind_unit)
