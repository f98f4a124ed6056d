-- The numbers that the module's names have among the joined ones, as they are counted off. Assumes nothing.
use Rattle.std.specs.Prelude.{ℕ, ◌+◌, List, [], ◌∷◌}
use Rattle.grammar.specs.Basics.{choose}
use Rattle.text.specs.Names.{any, same_name, place}

-- of a name that is among the others, its number there; of the rest, one after the other from `next` on
unfoldable pub numbered : List (List ℕ) → ℕ → List (List ℕ) → List ℕ
numbered names next [] = []
numbered names next (x ∷ xs) = choose (any (same_name x) names) (place (same_name x) names ∷ numbered names next xs) (next ∷ numbered names (next + 1) xs)
