-- Lists of names of which none is the same as one of another list. Assumes nothing.
use Prim.Native.Nat.{ℕ, ◌+◌}
use mathlib.Core.Path.{◌≡◌, refl, ◌∙◌}
use mathlib.Core.Bool.{Bool, true, false}
use mathlib.Core.List.{List, [], ◌∷◌, ◌++◌}
use Rattle.grammar.specs.Basics.{choose}
use Rattle.text.specs.Names.{all, any, same_name, has_double}
use Rattle.text.proofs.Names.{or_neither, neither_or, same-sym}
use Rattle.text.proofs.Pieces.{all_head, all_tail, all_cons}
use Rattle.modules.specs.Joined.{meet, added}

pub all-added : (p : List ℕ → Bool) (names xs : List (List ℕ)) → all p xs ≡ true → all p (added names xs) ≡ true
unfolding added
all-added p names [] h = h
all-added p names (x ∷ xs) h = go (any (same_name x) names) (all-added p names xs (all_tail p x xs h))
  where
    go : (c : Bool) → all p (added names xs) ≡ true → all p (choose c (added names xs) (x ∷ added names xs)) ≡ true
    go true k = k
    go false k = all_cons p x (added names xs) (all_head p x xs h) k

pub any_append : (p : List ℕ → Bool) (xs ys : List (List ℕ)) → any p xs ≡ false → any p ys ≡ false → any p (xs ++ ys) ≡ false
unfolding any
any_append p [] ys h k = k
any_append p (x ∷ xs) ys h k = let o = or_neither (p x) (any p xs) h in neither_or (p x) (any p (xs ++ ys)) o.0 (any_append p xs ys o.1 k)

pub any-front : (p : List ℕ → Bool) (xs ys : List (List ℕ)) → any p (xs ++ ys) ≡ false → any p xs ≡ false
unfolding any
any-front p [] ys h = refl
any-front p (x ∷ xs) ys h = let o = or_neither (p x) (any p (xs ++ ys)) h in neither_or (p x) (any p xs) o.0 (any-front p xs ys o.1)

pub any-back : (p : List ℕ → Bool) (xs ys : List (List ℕ)) → any p (xs ++ ys) ≡ false → any p ys ≡ false
unfolding any
any-back p [] ys h = h
any-back p (x ∷ xs) ys h = any-back p xs ys (or_neither (p x) (any p (xs ++ ys)) h).1

pub any-added : (p : List ℕ → Bool) (names xs : List (List ℕ)) → any p xs ≡ false → any p (added names xs) ≡ false
unfolding any added
any-added p names [] h = h
any-added p names (x ∷ xs) h = let o = or_neither (p x) (any p xs) h in go (any (same_name x) names) o.0 (any-added p names xs o.1)
  where
    go : (c : Bool) → p x ≡ false → any p (added names xs) ≡ false → any p (choose c (added names xs) (x ∷ added names xs)) ≡ false
    go true i k = k
    go false i k = neither_or (p x) (any p (added names xs)) i k

-- none of xs is in ys
pub meet-none : (ys : List (List ℕ)) → meet [] ys ≡ false
unfolding meet any
meet-none ys = refl

pub meet_cons : (x : List ℕ) (xs ys : List (List ℕ)) → any (same_name x) ys ≡ false → meet xs ys ≡ false → meet (x ∷ xs) ys ≡ false
unfolding meet any
meet_cons x xs ys h k = neither_or (any (same_name x) ys) (meet xs ys) h k

pub meet-head : (x : List ℕ) (xs ys : List (List ℕ)) → meet (x ∷ xs) ys ≡ false → (any (same_name x) ys ≡ false) × (meet xs ys ≡ false)
unfolding meet any
meet-head x xs ys h = or_neither (any (same_name x) ys) (meet xs ys) h

-- the left list: one after the other, or less
pub meet_left : (xs us ys : List (List ℕ)) → meet xs ys ≡ false → meet us ys ≡ false → meet (xs ++ us) ys ≡ false
meet_left [] us ys h k = k
meet_left (x ∷ xs) us ys h k = let o = meet-head x xs ys h in meet_cons x (xs ++ us) ys o.0 (meet_left xs us ys o.1 k)

pub meet_less : (names xs ys : List (List ℕ)) → meet xs ys ≡ false → meet (added names xs) ys ≡ false
unfolding added
meet_less names [] ys h = h
meet_less names (x ∷ xs) ys h = let o = meet-head x xs ys h in go (any (same_name x) names) o.0 (meet_less names xs ys o.1)
  where
    go : (c : Bool) → any (same_name x) ys ≡ false → meet (added names xs) ys ≡ false → meet (choose c (added names xs) (x ∷ added names xs)) ys ≡ false
    go true i k = k
    go false i k = meet_cons x (added names xs) ys i k

-- the right list likewise
pub meet_right : (xs ys us : List (List ℕ)) → meet xs ys ≡ false → meet xs us ≡ false → meet xs (ys ++ us) ≡ false
meet_right [] ys us h k = meet-none (ys ++ us)
meet_right (x ∷ xs) ys us h k =
    let o = meet-head x xs ys h in
    let p = meet-head x xs us k in
    meet_cons x xs (ys ++ us) (any_append (same_name x) ys us o.0 p.0) (meet_right xs ys us o.1 p.1)

pub meet-fewer : (names xs ys : List (List ℕ)) → meet xs ys ≡ false → meet xs (added names ys) ≡ false
meet-fewer names [] ys h = meet-none (added names ys)
meet-fewer names (x ∷ xs) ys h =
    let o = meet-head x xs ys h in
    meet_cons x xs (added names ys) (any-added (same_name x) names ys o.0) (meet-fewer names xs ys o.1)

-- one more on the right
pub meet-more : (xs : List (List ℕ)) (y : List ℕ) (ys : List (List ℕ)) → any (same_name y) xs ≡ false → meet xs ys ≡ false → meet xs (y ∷ ys) ≡ false
unfolding any
meet-more [] y ys h k = meet-none (y ∷ ys)
meet-more (x ∷ xs) y ys h k =
    let o = or_neither (same_name y x) (any (same_name y) xs) h in
    let p = meet-head x xs ys k in
    meet_cons x xs (y ∷ ys) (neither_or (same_name x y) (any (same_name x) ys) (same-sym x y ∙ o.0) p.0) (meet-more xs y ys o.1 p.1)

any_none : (x : List ℕ) → any (same_name x) [] ≡ false
unfolding any
any_none x = refl

pub meet-nothing : (ys : List (List ℕ)) → meet ys [] ≡ false
meet-nothing [] = meet-none []
meet-nothing (y ∷ ys) = meet_cons y ys [] (any_none y) (meet-nothing ys)

pub meet-sym : (xs ys : List (List ℕ)) → meet xs ys ≡ false → meet ys xs ≡ false
meet-sym [] ys h = meet-nothing ys
meet-sym (x ∷ xs) ys h = let o = meet-head x xs ys h in meet-more ys x xs o.0 (meet-sym xs ys o.1)

-- what is added is not there
pub meet-added : (names xs : List (List ℕ)) → meet names (added names xs) ≡ false
unfolding added
meet-added names [] = meet-nothing names
meet-added names (x ∷ xs) = go (any (same_name x) names) refl (meet-added names xs)
  where
    go : (c : Bool) → any (same_name x) names ≡ c → meet names (added names xs) ≡ false → meet names (choose c (added names xs) (x ∷ added names xs)) ≡ false
    go true e k = k
    go false e k = meet-more names x (added names xs) e k

-- no name twice, in parts
pub double_append : (xs ys : List (List ℕ)) → has_double xs ≡ false → has_double ys ≡ false → meet xs ys ≡ false → has_double (xs ++ ys) ≡ false
unfolding has_double
double_append [] ys h k m = k
double_append (x ∷ xs) ys h k m =
    let o = or_neither (any (same_name x) xs) (has_double xs) h in
    let p = meet-head x xs ys m in
    neither_or (any (same_name x) (xs ++ ys)) (has_double (xs ++ ys)) (any_append (same_name x) xs ys o.0 p.0) (double_append xs ys o.1 k p.1)

pub double_back : (xs ys : List (List ℕ)) → has_double (xs ++ ys) ≡ false → has_double ys ≡ false
unfolding has_double
double_back [] ys h = h
double_back (x ∷ xs) ys h = double_back xs ys (or_neither (any (same_name x) (xs ++ ys)) (has_double (xs ++ ys)) h).1

pub double_meet : (xs ys : List (List ℕ)) → has_double (xs ++ ys) ≡ false → meet xs ys ≡ false
unfolding has_double
double_meet [] ys h = meet-none ys
double_meet (x ∷ xs) ys h =
    let o = or_neither (any (same_name x) (xs ++ ys)) (has_double (xs ++ ys)) h in
    meet_cons x xs ys (any-back (same_name x) xs ys o.0) (double_meet xs ys o.1)

pub double_added : (names xs : List (List ℕ)) → has_double xs ≡ false → has_double (added names xs) ≡ false
unfolding has_double added
double_added names [] h = h
double_added names (x ∷ xs) h = let o = or_neither (any (same_name x) xs) (has_double xs) h in go (any (same_name x) names) o.0 (double_added names xs o.1)
  where
    go : (c : Bool) → any (same_name x) xs ≡ false → has_double (added names xs) ≡ false → has_double (choose c (added names xs) (x ∷ added names xs)) ≡ false
    go true i k = k
    go false i k = neither_or (any (same_name x) (added names xs)) (has_double (added names xs)) (any-added (same_name x) names xs i) k
