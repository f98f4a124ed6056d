-- The names of a line from a place on, a block of them as rows keep it, and what trying it tells. Assumes nothing.
use Rattle.std.specs.Prelude.{ℕ, ◌*◌, ◌≤◌, ◌<◌, ◌≡◌, List, [], ◌++◌, Bool, true, ◌||◌, leb, length, drop, Option, MatchOption}
use Rattle.grammar.specs.Basics.{choose}
use Rattle.text.specs.Pieces.{comma, split_on}
use Rattle.text.specs.Names.{any, same_name, has_double}
use Rattle.text.specs.Spelled.{spelled}
use Rattle.lexicon.specs.Tree.{most_names, Spans}

-- some name of xs is among ys
unfoldable pub meet : List (List ℕ) → List (List ℕ) → Bool
meet xs ys = any (λ x. any (same_name x) ys) xs

-- the names of v from place a on; none past its end
unfoldable pub names_from : List ℕ → ℕ → List (List ℕ)
names_from v a = choose (leb a (length v)) (split_on comma (drop a v)) []

-- a name of the block stands twice: in it, among later names, or among earlier ones
unfoldable pub stand_twice : List (List ℕ) → List (List ℕ) → List (List ℕ) → Bool
stand_twice earlier later block = has_double block || (meet later block || meet earlier block)

-- the rows have the names of v from place a on, up to place next
pub record Block (v : List ℕ) (a : ℕ) (starts lengths : List ℕ) (next : ℕ) : Type 0 where
  pub spans : Spans v starts lengths
  pub names : names_from v a ≡ spelled v starts lengths ++ names_from v next

-- rows for a block, with two links for each name
pub record BlockRows (starts lengths links : List ℕ) : Type 0 where
  pub some : 0 < length starts
  pub paired : length starts ≡ length lengths
  pub few : length starts ≤ most_names
  pub room : 2 * length starts ≤ length links

-- none: a name of v from place a on stands twice; or that is so precisely where it is from place b on
abbrev pub BlockTold : List (List ℕ) → List ℕ → ℕ → Option ℕ → Type 0
BlockTold earlier v a r = MatchOption r (has_double (earlier ++ names_from v a) ≡ true)
    (λ b. (a < b) × (has_double (earlier ++ names_from v a) ≡ has_double (earlier ++ names_from v b)))
