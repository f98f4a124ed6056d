-- Names looked up among those that rows spell in a text, and their codes.
-- Assumes nothing.
use Prim.Native.Nat.{ℕ, ◌+◌, ◌-◌, ◌≤◌, ◌<◌}
use mathlib.Core.Path.{◌≡◌, refl}
use mathlib.Core.List.{List, [], ◌∷◌}
use mathlib.Core.Bool.{Bool, true, false}
use borrow.Author.Tests.{le-leb, lt-leb, lt-ltb, le-ltb}
use lib.ListN.{length}
use Rattle.grammar.specs.Limits.{limits}
use Rattle.text.specs.Names.{all, same_name, place}
use Rattle.text.specs.Read.{number_of, is_known, code_of}
use Rattle.text_read.specs.Lines.{codes_of}

-- ---- known names

module _ (t : ℕ) (names : List (List ℕ)) (x : List ℕ) (i : ℕ) (at : i ≡ place (same_name x) names) where
  pub known-low : i < t → is_known t names x ≡ false
  unfolding is_known number_of
  known-low h = rw (← at, lt-leb t i h)

  pub known_out : t ≤ i → length names ≤ i → is_known t names x ≡ false
  unfolding is_known number_of
  known_out g h = rw (← at, le-leb t i g, le-ltb i (length names) h)

  pub known_in : t ≤ i → i < length names → is_known t names x ≡ true
  unfolding is_known number_of
  known_in g h = rw (← at, le-leb t i g, lt-ltb i (length names) h)

pub all_yes : {A : Type 0} (p : A → Bool) (x : A) (xs : List A) → p x ≡ true → all p (x ∷ xs) ≡ all p xs
unfolding all
all_yes p x xs h = rw h

pub all_no : {A : Type 0} (p : A → Bool) (x : A) (xs : List A) → p x ≡ false → all p (x ∷ xs) ≡ false
unfolding all
all_no p x xs h = rw h

-- ---- codes

pub code-low : (t i : ℕ) → i < t → code_of limits t i ≡ i + 1
unfolding code_of
code-low t i h = rw (lt-ltb i t h)

pub code-high : (t i : ℕ) → t ≤ i → code_of limits t i ≡ limits.nonterminal_base + (i - t)
unfolding code_of
code-high t i h = rw (le-ltb i t h)

pub codes-more : (t : ℕ) (names : List (List ℕ)) (x : List ℕ) (xs : List (List ℕ)) (i : ℕ) → i ≡ place (same_name x) names
    → codes_of t names (x ∷ xs) ≡ code_of limits t i ∷ codes_of t names xs
unfolding codes_of number_of
codes-more t names x xs i e = rw (← e)

pub codes-none : (t : ℕ) (names : List (List ℕ)) → codes_of t names [] ≡ []
unfolding codes_of
codes-none t names = refl
