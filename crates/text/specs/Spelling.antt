-- Names as they are declared, and a text in which each use has that spelling.
-- Source: document 02, [9]. Only the case of letters is at stake: names that are the same are as long as each other.
-- Assumes nothing.
use Rattle.std.specs.Prelude.{ℕ, ◌≡◌, List, [], ◌∷◌, ◌++◌, map, get_or}
use Rattle.std.proofs.Math.Option.{Option, none, some}
use Rattle.text.specs.Pieces.{line_end, colon, space, equals, split_on, led_by, join}
use Rattle.text.specs.Keys.{key, value_of}
use Rattle.text.specs.Read.{Sides, sides_of, number_of}

-- the spelling in which a name is declared; a name that is not declared keeps its own
unfoldable pub spelling : List (List ℕ) → List ℕ → List ℕ
spelling names x = get_or names (number_of names x) x

-- a rule's line by its two sides, each name in its declared spelling
abbrev pub spelled_sides : List (List ℕ) → Sides → List ℕ
spelled_sides names s = key 2 ++ equals ∷ (spelling names s.head ++ colon ∷ led_by space (map (spelling names) s.body))

-- the same of a line; one that is no rule's stays
abbrev pub or_line : List ℕ → List (List ℕ) → Option Sides → List ℕ
or_line line names none = line
or_line line names (some s) = spelled_sides names s

abbrev pub value_sides : Option (List ℕ) → Option Sides
value_sides none = none
value_sides (some v) = sides_of (split_on colon v)

unfoldable pub spelled_line : List (List ℕ) → List ℕ → List ℕ
spelled_line names line = or_line line names (value_sides (value_of (key 2) line))

-- the lines of a text: the two that declare stay
unfoldable pub spelled_lines : List (List ℕ) → List (List ℕ) → List (List ℕ)
spelled_lines names [] = []
spelled_lines names (first ∷ []) = first ∷ []
spelled_lines names (first ∷ second ∷ rest) = first ∷ second ∷ map (spelled_line names) rest

-- the text with each use of a name in its declared spelling
unfoldable pub spelled_text : List (List ℕ) → List ℕ → List ℕ
spelled_text names text = join line_end (spelled_lines names (split_on line_end text))

-- each use of a name in a text has its declared spelling already
abbrev pub AsDeclared : List (List ℕ) → List ℕ → Type 0
AsDeclared names text = spelled_text names text ≡ text
