-- Numbers in decimal, and what digits say. Source: document 01, "Grammars on file" (the program's lines); document 02, [2] ("rule
-- numbers are decimal without leading zeros"). Assumes nothing.
use Rattle.std.specs.Prelude.{ℕ, zero, suc, ◌+◌, ◌-◌, ◌*◌, ◌/◌, ◌%◌, Bool, false, not, ◌&&◌, ◌||◌, List, [], ◌∷◌, ◌++◌, eqb, ltb, length}
use Rattle.grammar.specs.Basics.{choose}
use Rattle.text.specs.Names.{within, all}

-- the last m digits of a number in decimal, or all where there are fewer
unfoldable pub decimal_to : ℕ → ℕ → List ℕ
decimal_to zero x = []
decimal_to (suc m) x = choose (ltb x 10) ((48 + x) ∷ []) (decimal_to m (x / 10) ++ ((48 + x % 10) ∷ []))

-- a number in decimal: x has no more than x + 1 digits
abbrev pub decimal : ℕ → List ℕ
decimal x = decimal_to (suc x) x

-- the number that digits say, after those that say `before`
unfoldable pub number_from : ℕ → List ℕ → ℕ
number_from before [] = before
number_from before (b ∷ s) = number_from (before * 10 + (b - 48)) s

-- a digit
abbrev pub is_digit : ℕ → Bool
is_digit b = within 48 57 b

-- one digit or more, without leading zeros
unfoldable pub is_decimal : List ℕ → Bool
is_decimal [] = false
is_decimal (b ∷ s) = all is_digit (b ∷ s) && (eqb (length s) 0 || not (eqb b 48))
