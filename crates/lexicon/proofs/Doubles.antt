-- Names that stand twice: the lowest repeated one, as `plant` answers it, against `has_double`. Assumes nothing.
use Prim.Native.Nat.{ℕ, suc, ◌≤◌, ◌<◌}
use mathlib.Core.Path.{◌≡◌, refl}
use mathlib.Core.List.{List, [], ◌∷◌, ◌++◌}
use mathlib.Core.Bool.{Bool, true, false}
use native.Mathlib.Omega.{arith}
use lib.ListN.{length}
use Rattle.grammar.specs.Basics.{choose}
use Rattle.text.specs.Names.{any, same_name, has_double}
use Rattle.text.specs.Print.{first_double}
use Rattle.text.proofs.Gather.{first_double_lem}

-- where no name stands twice, the lowest repeated one is past the last
pub once_first : (names : List (List ℕ)) → has_double names ≡ false → first_double [] names ≡ length names
once_first names h = (first_double_lem names).1 h

-- and the other way round
pub first_once : (names : List (List ℕ)) → first_double [] names ≡ length names → has_double names ≡ false
first_once names h = (first_double_lem names).0 h

-- it is never further
pub first-within : (earlier names : List (List ℕ)) → first_double earlier names ≤ length names
unfolding first_double
first-within earlier [] = omega arith
first-within earlier (x ∷ xs) = go (any (same_name x) earlier) (first-within (earlier ++ (x ∷ [])) xs)
  where
    go : (t : Bool) → first_double (earlier ++ (x ∷ [])) xs ≤ length xs
        → choose t 0 (suc (first_double (earlier ++ (x ∷ [])) xs)) ≤ suc (length xs)
    go true h = omega arith
    go false h = omega arith

-- where a repeated one is among them, a name stands twice
pub first-twice : (names : List (List ℕ)) → first_double [] names < length names → has_double names ≡ true
first-twice names h = go (has_double names) refl
  where
    go : (t : Bool) → has_double names ≡ t → t ≡ true
    go true e = refl
    go false e = absurd (omega (arith, once_first names e))
