-- Names that stand twice in lists end to end, and names that two lists share. Assumes nothing.
use Prim.Native.Nat.{ℕ, suc, ◌≤◌, ◌<◌}
use mathlib.Core.Path.{◌≡◌, refl, ap, ap₂, sym, ◌∙◌}
use mathlib.Core.List.{List, [], ◌∷◌, ◌++◌}
use mathlib.Core.Bool.{Bool, true, false, ◌||◌}
use native.Mathlib.Omega.{arith}
use lib.ListN.{length}
use Rattle.grammar.specs.Basics.{choose}
use Rattle.text.specs.Names.{same_name, any, has_double, place}
use Rattle.text.proofs.Names.{same-sym}
use Rattle.doubles.specs.Blocks.{meet, stand_twice}

pub double_none : has_double [] ≡ false
unfolding has_double
double_none = refl

-- ---- one name after the other

pub meet-none : (ys : List (List ℕ)) → meet [] ys ≡ false
unfolding meet any
meet-none ys = refl

pub meet-hit : (x : List ℕ) (xs ys : List (List ℕ)) → any (same_name x) ys ≡ true → meet (x ∷ xs) ys ≡ true
unfolding meet any
meet-hit x xs ys e = rw e

pub meet_miss : (x : List ℕ) (xs ys : List (List ℕ)) → any (same_name x) ys ≡ false → meet (x ∷ xs) ys ≡ meet xs ys
unfolding meet any
meet_miss x xs ys e = rw e

-- a place among the elements, or past them
pub place-some : {A : Type 0} (p : A → Bool) (xs : List A) → place p xs < length xs → any p xs ≡ true
unfolding place any
place-some p [] h = absurd (omega arith)
place-some p (x ∷ xs) h = go (p x) (place-some p xs) h
  where
    go : (t : Bool) → (place p xs < length xs → any p xs ≡ true) → choose t 0 (suc (place p xs)) < suc (length xs) → t || any p xs ≡ true
    go true again h = refl
    go false again h = again (omega arith)

pub place-past : {A : Type 0} (p : A → Bool) (xs : List A) → length xs ≤ place p xs → any p xs ≡ false
unfolding place any
place-past p [] h = refl
place-past p (x ∷ xs) h = go (p x) (place-past p xs) h
  where
    go : (t : Bool) → (length xs ≤ place p xs → any p xs ≡ false) → suc (length xs) ≤ choose t 0 (suc (place p xs)) → t || any p xs ≡ false
    go true again h = absurd (omega arith)
    go false again h = again (omega arith)

-- ---- lists end to end

or_assoc : (a b c : Bool) → a || (b || c) ≡ (a || b) || c
or_assoc true b c = refl
or_assoc false b c = refl

or_swap : (a b c d : Bool) → (a || b) || (c || d) ≡ (a || c) || (b || d)
or_swap true b c d = refl
or_swap false true true d = refl
or_swap false true false d = refl
or_swap false false c d = refl

any_append : {A : Type 0} (p : A → Bool) (xs ys : List A) → any p (xs ++ ys) ≡ any p xs || any p ys
unfolding any
any_append p [] ys = refl
any_append p (x ∷ xs) ys = rw (any_append p xs ys) (or_assoc (p x) (any p xs) (any p ys))

meet-more : (y : List ℕ) (xs ys : List (List ℕ)) → meet xs (y ∷ ys) ≡ any (same_name y) xs || meet xs ys
unfolding meet any
meet-more y [] ys = refl
meet-more y (x ∷ xs) ys = rw (meet-more y xs ys, same-sym x y) (or_swap (same_name y x) (any (same_name x) ys) (any (same_name y) xs) (meet xs ys))

meet-sym : (xs ys : List (List ℕ)) → meet xs ys ≡ meet ys xs
unfolding meet any
meet-sym [] ys = nothing ys
  where
    nothing : (ys : List (List ℕ)) → false ≡ any (λ y. any (same_name y) []) ys
    nothing [] = refl
    nothing (y ∷ ys) = nothing ys
meet-sym (x ∷ xs) ys = sym (meet-more x ys xs ∙ ap (λ (m : Bool). any (same_name x) ys || m) (sym (meet-sym xs ys)))

meet_append : (xs ys zs : List (List ℕ)) → meet zs (xs ++ ys) ≡ meet zs xs || meet zs ys
unfolding meet
meet_append xs ys zs =
    meet-sym zs (xs ++ ys) ∙ any_append (λ x. any (same_name x) zs) xs ys
    ∙ ap₂ (λ (a b : Bool). a || b) (meet-sym xs zs) (meet-sym ys zs)

-- a name stands twice in two lists end to end: in the first, in both, or in the second
double_append : (xs ys : List (List ℕ)) → has_double (xs ++ ys) ≡ has_double xs || (meet ys xs || has_double ys)
unfolding has_double
double_append [] ys = rw (meet-sym ys [], meet-none ys)
double_append (x ∷ xs) ys =
    rw (any_append (same_name x) xs ys, double_append xs ys, meet-more x ys xs)
    (or_four (any (same_name x) xs) (any (same_name x) ys) (has_double xs) (meet ys xs) (has_double ys))
  where
    or_four : (a b c d e : Bool) → (a || b) || (c || (d || e)) ≡ (a || c) || ((b || d) || e)
    or_four true b c d e = refl
    or_four false true true d e = refl
    or_four false true false d e = refl
    or_four false false true d e = refl
    or_four false false false d e = refl

-- a block's names stand twice in it, among later names, or among earlier ones
module _ (earlier later block : List (List ℕ)) where
  pub stand_in : has_double block ≡ true → stand_twice earlier later block ≡ true
  unfolding stand_twice
  stand_in e = rw e

  pub stand_later : has_double block ≡ false → meet later block ≡ true → stand_twice earlier later block ≡ true
  unfolding stand_twice
  stand_later e h = rw (e, h)

  pub stand_earlier : has_double block ≡ false → meet later block ≡ false → stand_twice earlier later block ≡ meet earlier block
  unfolding stand_twice
  stand_earlier e h = rw (e, h)

-- a block's names stand twice, or they do not count
pub stand_append : (earlier block later : List (List ℕ))
    → has_double (earlier ++ (block ++ later)) ≡ stand_twice earlier later block || has_double (earlier ++ later)
unfolding stand_twice
stand_append earlier block later =
    rw (double_append earlier (block ++ later), double_append earlier later, double_append block later, meet-sym (block ++ later) earlier, meet_append block later earlier, meet-sym later earlier)
    (go (has_double earlier) (meet earlier block) (meet earlier later) (has_double block) (meet later block) (has_double later))
  where
    go : (de eb el db lb dl : Bool) → de || ((eb || el) || (db || (lb || dl))) ≡ (db || (lb || eb)) || (de || (el || dl))
    go true eb el true lb dl = refl
    go true eb el false true dl = refl
    go true true el false false dl = refl
    go true false el false false dl = refl
    go false true el true lb dl = refl
    go false true el false true dl = refl
    go false true el false false dl = refl
    go false false true true lb dl = refl
    go false false true false true dl = refl
    go false false true false false dl = refl
    go false false false true lb dl = refl
    go false false false false true dl = refl
    go false false false false false dl = refl
