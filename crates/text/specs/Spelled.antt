-- Names as rows of starts and lengths give them: `spelled` takes from the text, for each start and length, that many bytes from there
-- on. Assumes nothing.
use Rattle.std.specs.Prelude.{ℕ, ◌+◌, ◌≤◌, ◌<◌, List, [], ◌∷◌, length, take, drop, get_or}

-- what stands in the text at each start, as long as its length says
unfoldable pub spelled : List ℕ → List ℕ → List ℕ → List (List ℕ)
spelled text [] lengths = []
spelled text (at ∷ starts) [] = []
spelled text (at ∷ starts) (l ∷ lengths) = take l (drop at text) ∷ spelled text starts lengths

-- each start with its length lies in the text
abbrev pub Inside : List ℕ → List ℕ → List ℕ → Type 0
Inside text starts lengths = (i : ℕ) → i < length starts → get_or starts i 0 + get_or lengths i 0 ≤ length text
