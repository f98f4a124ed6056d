-- The numbers counted off are the places among the joined names. Assumes nothing.
use Prim.Native.Nat.{ℕ, suc, ◌+◌, ◌≤◌}
use mathlib.Core.Path.{◌≡◌, refl, ap, ap₂, sym, subst, ◌∙◌}
use mathlib.Core.Bool.{Bool, true, false, ◌||◌}
use mathlib.Core.List.{List, [], ◌∷◌, ◌++◌, map, append_assoc, append-nil}
use native.Mathlib.Omega.{arith}
use borrow.Author.Tests.{lt-ltb, le-ltb}
use lib.Dec.{ltb}
use lib.ListN.{length, length-append}
use Rattle.grammar.specs.Basics.{choose}
use Rattle.grammar.proofs.Answers.{no_bool}
use Rattle.text.specs.Names.{any, same_name, has_double, place}
use Rattle.text.proofs.Names.{or_neither, same_refl}
use Rattle.modules.specs.Joined.{meet, added}
use Rattle.joining.specs.Numbers.{numbered}
use Rattle.modules.proofs.Meets.{meet-head, meet_right, meet-more, meet-nothing}
use Rattle.modules.proofs.Named.{place-some, place-past}

-- the place in a list whose front has one that passes, and in one whose front has none
pub place-front : (p : List ℕ → Bool) (xs ys : List (List ℕ)) → any p xs ≡ true → place p (xs ++ ys) ≡ place p xs
unfolding any place
place-front p [] ys h = no_bool (sym h)
place-front p (x ∷ xs) ys h = go (p x) h (place-front p xs ys)
  where
    go : (c : Bool) → c || any p xs ≡ true → (any p xs ≡ true → place p (xs ++ ys) ≡ place p xs) → choose c 0 (suc (place p (xs ++ ys))) ≡ choose c 0 (suc (place p xs))
    go true e k = refl
    go false e k = ap (λ (i : ℕ). suc i) (k e)

pub place_after : (p : List ℕ → Bool) (xs ys : List (List ℕ)) → any p xs ≡ false → place p (xs ++ ys) ≡ length xs + place p ys
unfolding any place
place_after p [] ys h = omega arith
place_after p (x ∷ xs) ys h = let o = or_neither (p x) (any p xs) h in rw o.0 (omega (arith, place_after p xs ys o.1))

place-first : (p : List ℕ → Bool) (x : List ℕ) (xs : List (List ℕ)) → p x ≡ true → place p (x ∷ xs) ≡ 0
unfolding place
place-first p x xs e = rw e refl

abbrev places : List (List ℕ) → List (List ℕ) → List ℕ
places all xs = map (λ x. place (same_name x) all) xs

-- xs after names and those that were added before, of which none is in xs
counted : (names before xs : List (List ℕ)) (next : ℕ) → next ≡ length names + length before → has_double xs ≡ false → meet xs before ≡ false
    → numbered names next xs ≡ places (names ++ (before ++ added names xs)) xs
unfolding numbered added has_double
counted names before [] next e o b = refl
counted names before (x ∷ xs) next e o b =
    let p = or_neither (any (same_name x) xs) (has_double xs) o in
    let q = meet-head x xs before b in
    go (any (same_name x) names) refl (counted names before xs next e p.1 q.1)
    (counted names (before ++ (x ∷ [])) xs (next + 1) (omega (arith, e, length-append before (x ∷ []))) p.1
    (meet_right xs before (x ∷ []) q.1 (meet-more xs x [] p.0 (meet-nothing xs)))) q.0
  where
    go : (c : Bool) → any (same_name x) names ≡ c
        → numbered names next xs ≡ places (names ++ (before ++ added names xs)) xs
        → numbered names (next + 1) xs ≡ places (names ++ ((before ++ (x ∷ [])) ++ added names xs)) xs
        → any (same_name x) before ≡ false
        → choose c (place (same_name x) names ∷ numbered names next xs) (next ∷ numbered names (next + 1) xs)
        ≡ places (names ++ (before ++ choose c (added names xs) (x ∷ added names xs))) (x ∷ xs)
    go true h i j k = ap₂ (λ (n : ℕ) (ns : List ℕ). n ∷ ns) (sym (place-front (same_name x) names (before ++ added names xs) h)) i
    go false h i j k =
        ap₂ (λ (n : ℕ) (ns : List ℕ). n ∷ ns)
        (let z : next ≡ place (same_name x) (names ++ (before ++ (x ∷ added names xs)))
        = omega (arith, e, place_after (same_name x) names (before ++ (x ∷ added names xs)) h, place_after (same_name x) before (x ∷ added names xs) k, place-first (same_name x) x (added names xs) (same_refl x)) in z)
        (j ∙ ap (λ (l : List (List ℕ)). places (names ++ l) xs) (append_assoc before (x ∷ []) (added names xs)))

-- the numbers of the module's names
pub numbers-right : (names xs : List (List ℕ)) → has_double xs ≡ false → numbered names (length names) xs ≡ map (λ x. place (same_name x) (names ++ added names xs)) xs
numbers-right names xs o = counted names [] xs (length names) (omega arith) o (meet-nothing xs)

-- one more name
pub numbered_snoc : (names xs : List (List ℕ)) (next : ℕ) (x : List ℕ)
    → numbered names next (xs ++ (x ∷ []))
    ≡ numbered names next xs ++ (choose (any (same_name x) names) (place (same_name x) names) (next + length (added names xs)) ∷ [])
unfolding numbered added
numbered_snoc names [] next x = go (any (same_name x) names)
  where
    go : (c : Bool) → choose c (place (same_name x) names ∷ []) (next ∷ []) ≡ choose c (place (same_name x) names) (next + 0) ∷ []
    go true = refl
    go false = ap (λ (n : ℕ). n ∷ []) (let z : next ≡ next + 0 = omega arith in z)
numbered_snoc names (y ∷ xs) next x = go (any (same_name y) names) (numbered_snoc names xs next x) (numbered_snoc names xs (next + 1) x)
  where
    abbr : ℕ → ℕ
    abbr n = choose (any (same_name x) names) (place (same_name x) names) n

    go : (c : Bool) → numbered names next (xs ++ (x ∷ [])) ≡ numbered names next xs ++ (abbr (next + length (added names xs)) ∷ [])
        → numbered names (next + 1) (xs ++ (x ∷ [])) ≡ numbered names (next + 1) xs ++ (abbr (next + 1 + length (added names xs)) ∷ [])
        → choose c (place (same_name y) names ∷ numbered names next (xs ++ (x ∷ []))) (next ∷ numbered names (next + 1) (xs ++ (x ∷ [])))
        ≡ choose c (place (same_name y) names ∷ numbered names next xs) (next ∷ numbered names (next + 1) xs)
        ++ (abbr (next + length (choose c (added names xs) (y ∷ added names xs))) ∷ [])
    go true i j = ap (λ (l : List ℕ). place (same_name y) names ∷ l) i
    go false i j =
        ap (λ (l : List ℕ). next ∷ l)
        (j ∙ ap (λ (n : ℕ). numbered names (next + 1) xs ++ (abbr n ∷ [])) (let z : next + 1 + length (added names xs) ≡ next + suc (length (added names xs)) = omega arith in z))

-- and how many are added then
pub added_snoc : (names xs : List (List ℕ)) (x : List ℕ)
    → length (added names (xs ++ (x ∷ []))) ≡ choose (any (same_name x) names) (length (added names xs)) (length (added names xs) + 1)
unfolding added
added_snoc names [] x = go (any (same_name x) names)
  where
    go : (c : Bool) → length (choose c [] (x ∷ [])) ≡ choose c 0 (0 + 1)
    go true = refl
    go false = refl
added_snoc names (y ∷ xs) x = go (any (same_name y) names) (any (same_name x) names) (added_snoc names xs x)
  where
    go : (c d : Bool) → length (added names (xs ++ (x ∷ []))) ≡ choose d (length (added names xs)) (length (added names xs) + 1)
        → length (choose c (added names (xs ++ (x ∷ []))) (y ∷ added names (xs ++ (x ∷ []))))
        ≡ choose d (length (choose c (added names xs) (y ∷ added names xs))) (length (choose c (added names xs) (y ∷ added names xs)) + 1)
    go true d e = e
    go false true e = omega (arith, e)
    go false false e = omega (arith, e)

-- a name is among others exactly where its place is
pub any_place : (p : List ℕ → Bool) (xs : List (List ℕ)) → any p xs ≡ ltb (place p xs) (length xs)
any_place p xs = go (any p xs) refl
  where
    go : (c : Bool) → any p xs ≡ c → c ≡ ltb (place p xs) (length xs)
    go true e = sym (lt-ltb (place p xs) (length xs) (place-some p xs e))
    go false e = sym (le-ltb (place p xs) (length xs) (subst (λ (ys : List (List ℕ)). length xs ≤ place p ys) (append-nil xs) (place-past p xs [] e)))
