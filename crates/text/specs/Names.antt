-- Names: which are well formed, which are the same, which are declared twice.
-- Source: document 01, "Grammar text"; document 02, [9]: names that differ only in the case of ASCII letters are the same.
-- `folded` is the one place that says so.
-- Assumes nothing.
use Rattle.std.specs.Prelude.{ℕ, suc, ◌+◌, Bool, true, false, ◌&&◌, ◌||◌, List, [], ◌∷◌, eqb, leb, length}
use Rattle.grammar.specs.Basics.{choose}

-- from lo to hi
abbrev pub within : ℕ → ℕ → ℕ → Bool
within lo hi b = leb lo b && leb b hi

-- an ASCII letter, a digit or a hyphen
unfoldable pub is_name_byte : ℕ → Bool
is_name_byte b = within 97 122 b || (within 65 90 b || (within 48 57 b || eqb b 45))

-- every element passes the test; some element does
unfoldable pub all : {A : Type 0} → (A → Bool) → List A → Bool
all test [] = true
all test (x ∷ xs) = test x && all test xs

unfoldable pub any : {A : Type 0} → (A → Bool) → List A → Bool
any test [] = false
any test (x ∷ xs) = test x || any test xs

-- 1 to 15 ASCII letters, digits or hyphens
unfoldable pub is_name : List ℕ → Bool
is_name s = within 1 15 (length s) && all is_name_byte s

-- what of a byte counts where names are compared: a capital letter counts as the small one
unfoldable pub folded : ℕ → ℕ
folded b = choose (within 65 90 b) (b + 32) b

-- two names are the same name
unfoldable pub same_name : List ℕ → List ℕ → Bool
same_name [] [] = true
same_name [] (b ∷ t) = false
same_name (a ∷ s) [] = false
same_name (a ∷ s) (b ∷ t) = eqb (folded a) (folded b) && same_name s t

-- some name stands again later
unfoldable pub has_double : List (List ℕ) → Bool
has_double [] = false
has_double (x ∷ xs) = any (same_name x) xs || has_double xs

-- the number of elements before the first that passes the test; the length where none does
unfoldable pub place : {A : Type 0} → (A → Bool) → List A → ℕ
place test [] = 0
place test (x ∷ xs) = choose (test x) 0 (suc (place test xs))
