-- Lines in declared spelling differ from the lines only in the case of letters, whatever the lines. Assumes nothing.
use Prim.Native.Nat.{ℕ}
use mathlib.Core.Path.{◌≡◌, refl, sym, ap, ap₂, ◌∙◌}
use mathlib.Core.Bool.{Bool, true, false}
use mathlib.Core.List.{List, [], ◌∷◌, map}
use mathlib.Core.Option.{Option, none, some}
use Rattle.grammar.specs.Basics.{choose}
use Rattle.text.specs.Pieces.{line_end, space, split_on, join}
use Rattle.text.specs.Names.{is_name, folded}
use Rattle.text.specs.Keys.{value_of}
use Rattle.text.specs.Spelling.{spelling}
use Rattle.text.proofs.Names.{spelling_case, value-key}
use Rattle.text.proofs.Pieces.{join-split}
use Rattle.text.proofs.Case.{join_case, value_case}
use Rattle.readings.specs.Readings.{left_key, right_key, pieces_of}
use Rattle.readings.specs.Spelling.{spelled_word, or_reading, spelled_reading, spelled_pair, spelled_readings}

-- the pieces of a value with one space between are the value
join_pieces : (value : List ℕ) → join space (pieces_of value) ≡ value
unfolding pieces_of join
join_pieces [] = refl
join_pieces (b ∷ s) = join-split space (b ∷ s)

module _ (names : List (List ℕ)) where
  word_case : (p : List ℕ) → map folded (spelled_word names p) ≡ map folded p
  unfolding spelled_word
  word_case p = go (is_name p)
    where
      go : (b : Bool) → map folded (choose b (spelling names p) p) ≡ map folded p
      go true = spelling_case names p
      go false = refl

  words_case : (ps : List (List ℕ)) → map (map folded) (map (spelled_word names) ps) ≡ map (map folded) ps
  words_case [] = refl
  words_case (p ∷ ps) = ap₂ (λ (x : List ℕ) (xs : List (List ℕ)). x ∷ xs) (word_case p) (words_case ps)

  reading_case : (k line : List ℕ) → map folded (spelled_reading names k line) ≡ map folded line
  reading_case k line = go (value_of k line) refl
    where
      go : (o : Option (List ℕ)) → value_of k line ≡ o → map folded (or_reading line names k o) ≡ map folded line
      go none e = refl
      go (some value) e =
          value_case k (join space (map (spelled_word names) (pieces_of value))) value
          (join_case space (map (spelled_word names) (pieces_of value)) (pieces_of value) (words_case (pieces_of value))
          ∙ ap (map folded) (join_pieces value))
          ∙ ap (map folded) (sym (value-key k line value e))

  pair_case : (ps : List (List ℕ)) → map (map folded) (spelled_pair names ps) ≡ map (map folded) ps
  pair_case [] = refl
  pair_case (first ∷ []) = refl
  pair_case (first ∷ second ∷ rest) =
      ap₂ (λ (p q : List ℕ). p ∷ q ∷ map (map folded) rest) (reading_case left_key first) (reading_case right_key second)

  pub lines_case : (lines : List ℕ) → map folded (spelled_readings names lines) ≡ map folded lines
  unfolding spelled_readings
  lines_case lines =
      join_case line_end (spelled_pair names (split_on line_end lines)) (split_on line_end lines) (pair_case (split_on line_end lines))
      ∙ ap (map folded) (join-split line_end lines)
