-- Two lines in which each name has its declared spelling.
-- Source: document 02, [9]. Keys, openings and closings stay: they are no names.
-- Assumes nothing.
use Rattle.std.specs.Prelude.{ℕ, List, [], ◌∷◌, ◌++◌, map}
use Rattle.std.proofs.Math.Option.{Option, none, some}
use Rattle.grammar.specs.Basics.{choose}
use Rattle.text.specs.Pieces.{line_end, space, equals, split_on, join}
use Rattle.text.specs.Names.{is_name}
use Rattle.text.specs.Keys.{value_of}
use Rattle.text.specs.Spelling.{spelling}
use Rattle.readings.specs.Readings.{left_key, right_key, pieces_of}

-- a word in its declared spelling; one that is no name stays
unfoldable pub spelled_word : List (List ℕ) → List ℕ → List ℕ
spelled_word names p = choose (is_name p) (spelling names p) p

-- a line with this key by its value, each word so spelled; a line without that key stays
abbrev pub or_reading : List ℕ → List (List ℕ) → List ℕ → Option (List ℕ) → List ℕ
or_reading line names k none = line
or_reading line names k (some value) = k ++ equals ∷ join space (map (spelled_word names) (pieces_of value))

abbrev pub spelled_reading : List (List ℕ) → List ℕ → List ℕ → List ℕ
spelled_reading names k line = or_reading line names k (value_of k line)

-- the first two lines; what stands past them stays
abbrev pub spelled_pair : List (List ℕ) → List (List ℕ) → List (List ℕ)
spelled_pair names [] = []
spelled_pair names (first ∷ []) = first ∷ []
spelled_pair names (first ∷ second ∷ rest) = spelled_reading names left_key first ∷ spelled_reading names right_key second ∷ rest

-- the lines with each name in its declared spelling
unfoldable pub spelled_readings : List (List ℕ) → List ℕ → List ℕ
spelled_readings names lines = join line_end (spelled_pair names (split_on line_end lines))
