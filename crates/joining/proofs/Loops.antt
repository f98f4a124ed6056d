-- Laws of the loops over the module's names. Assumes nothing.
use Prim.Native.Nat.{ℕ, zero, suc, ◌+◌, ◌≤◌, ◌<◌}
use mathlib.Core.Path.{◌≡◌, refl, ap, sym, subst, ◌∙◌}
use mathlib.Core.Bool.{Bool, true, false}
use mathlib.Core.List.{List, [], ◌∷◌, ◌++◌, map}
use native.Mathlib.Omega.{arith}
use native.Mathlib.Numerals.{add-one}
use lib.Dec.{ltb}
use borrow.Author.Tests.{lt-ltb, le-ltb}
use lib.ListN.{length, take, drop, get_or, set, length-map, drop_of_length-le}
use lib.Seq.{drop-cons, take-suc, append_snoc, set_at, length-take-le, paste, paste-suc}
use lib.Seq.{take-length}
use Rattle.grammar.specs.Basics.{choose, over}
use Rattle.text.specs.Names.{any, same_name, place}
use Rattle.modules.specs.Joined.{meet, added}
use Rattle.joining.specs.Numbers.{numbered}
use Rattle.joining.proofs.Numbers.{any_place, numbered_snoc, added_snoc}

module _ (xs ys : List (List ℕ)) (i : ℕ) where
  meet-at : i < length xs → meet (drop i xs) ys ≡ any (λ x. any (same_name x) ys) (get_or xs i [] ∷ drop (i + 1) xs)
  unfolding meet
  meet-at h = rw (add-one, drop-cons xs i []) refl

  -- the name at the cursor is there
  pub meet-here : i < length xs → place (same_name (get_or xs i [])) ys < length ys → meet (drop i xs) ys ≡ true
  unfolding any
  meet-here h k = meet-at h ∙ rw (any_place (same_name (get_or xs i [])) ys ∙ lt-ltb (place (same_name (get_or xs i [])) ys) (length ys) k) refl

  -- it is not, so the others count
  pub meet-later : i < length xs → length ys ≤ place (same_name (get_or xs i [])) ys → meet (drop i xs) ys ≡ meet (drop (i + 1) xs) ys
  unfolding any meet
  meet-later h k = meet-at h ∙ rw (any_place (same_name (get_or xs i [])) ys ∙ le-ltb (place (same_name (get_or xs i [])) ys) (length ys) k) refl

  -- there is none left
  pub meet-end : length xs ≤ i → meet (drop i xs) ys ≡ false
  unfolding meet any
  meet-end h = rw (drop_of_length-le xs h) refl

pub length-numbered : (names : List (List ℕ)) (b : ℕ) (xs : List (List ℕ)) → length (numbered names b xs) ≡ length xs
unfolding numbered
length-numbered names b [] = refl
length-numbered names b (x ∷ xs) = go (any (same_name x) names) (length-numbered names b xs) (length-numbered names (b + 1) xs)
  where
    go : (c : Bool) → length (numbered names b xs) ≡ length xs → length (numbered names (b + 1) xs) ≡ length xs
        → length (choose c (place (same_name x) names ∷ numbered names b xs) (b ∷ numbered names (b + 1) xs)) ≡ suc (length xs)
    go true e f = ap (λ (n : ℕ). suc n) e
    go false e f = ap (λ (n : ℕ). suc n) f

module _ (names xs : List (List ℕ)) (i : ℕ) (h : i < length xs) where
  -- the place of the name at the cursor
  abbrev at : ℕ
  at = place (same_name (get_or xs i [])) names

  -- how many are added with it
  pub added_more : length (added names (take (i + 1) xs)) ≡ choose (ltb at (length names)) (length (added names (take i xs))) (length (added names (take i xs)) + 1)
  added_more =
      ap (λ (ys : List (List ℕ)). length (added names ys)) (rw add-one (take-suc xs i [] h))
      ∙ added_snoc names (take i xs) (get_or xs i [])
      ∙ ap (λ (c : Bool). choose c (length (added names (take i xs))) (length (added names (take i xs)) + 1)) (any_place (same_name (get_or xs i [])) names)

  pub next_more : (n next : ℕ) → n ≡ length names → next ≡ n + length (added names (take i xs))
      → choose (ltb at n) next (next + 1) ≡ n + length (added names (take (i + 1) xs))
  next_more n next q e = go (ltb at n) (added_more ∙ ap (λ (k : ℕ). choose (ltb at k) (length (added names (take i xs))) (length (added names (take i xs)) + 1)) (sym q))
    where
      go : (c : Bool) → length (added names (take (i + 1) xs)) ≡ choose c (length (added names (take i xs))) (length (added names (take i xs)) + 1)
          → choose c next (next + 1) ≡ n + length (added names (take (i + 1) xs))
      go true f = omega (arith, e, f)
      go false f = omega (arith, e, f)

  -- the row with its number
  pub number_more : (old : List ℕ) (n next : ℕ) → length xs ≤ length old → n ≡ length names → next ≡ n + length (added names (take i xs))
      → set (numbered names n (take i xs) ++ drop i old) i (choose (ltb at n) at next) ≡ numbered names n (take (i + 1) xs) ++ drop (i + 1) old
  number_more old n next l q e =
      let m : length (numbered names n (take i xs)) ≡ i = length-numbered names n (take i xs) ∙ length-take-le i xs (omega arith) in
      let v = choose (ltb at n) at next in
      let same : v ≡ choose (any (same_name (get_or xs i [])) names) at (n + length (added names (take i xs)))
      = ap (λ (k : ℕ). choose (ltb at n) at k) e ∙ ap (λ (c : Bool). choose c at (n + length (added names (take i xs)))) (ap (λ (k : ℕ). ltb at k) q ∙ sym (any_place (same_name (get_or xs i [])) names)) in
      ap (λ (w : List ℕ). set (numbered names n (take i xs) ++ w) i v) (drop-cons old i 0 (omega arith))
      ∙ set_at (numbered names n (take i xs)) (get_or old i 0) (drop (suc i) old) v i m
      ∙ sym (append_snoc (numbered names n (take i xs)) v (drop (suc i) old))
      ∙ rw add-one (ap (λ (w : List ℕ). w ++ drop (suc i) old)
      (ap (λ (k : ℕ). numbered names n (take i xs) ++ (k ∷ [])) same ∙ sym (numbered_snoc names (take i xs) n (get_or xs i []))
      ∙ ap (numbered names n) (sym (take-suc xs i [] h))))

  module _ (old row : List ℕ) (n next k : ℕ) (l : length xs ≤ length old) (q : n ≡ length names)
      (e : next ≡ n + length (added names (take i xs))) (r : row ≡ numbered names n (take i xs) ++ drop i old) (a : k ≡ at) where
    -- the number that follows, and the row with the number of the name at the cursor
    abbrev Counted : ℕ → ℕ → Type 0
    Counted v next' =
        (next' ≡ n + length (added names (take (i + 1) xs))) × (set row i v ≡ numbered names n (take (i + 1) xs) ++ drop (i + 1) old)

    counted : (b : Bool) → ltb at n ≡ b → Counted (choose b at next) (choose b next (next + 1))
    counted b t = (
      sym (ap (λ (c : Bool). choose c next (next + 1)) t) ∙ next_more n next q e,
      ap (λ (w : List ℕ). set w i (choose b at next)) r ∙ sym (ap (λ (c : Bool). set (numbered names n (take i xs) ++ drop i old) i (choose c at next)) t)
          ∙ number_more old n next l q e,
    )

    -- the robot has it
    pub counted_known : k < n → Counted k next
    counted_known h = subst (λ (v : ℕ). Counted v next) (sym a) (counted true (lt-ltb at n (omega arith)))

    -- it is added
    pub counted_added : n ≤ k → Counted next (next + 1)
    counted_added h = counted false (le-ltb at n (omega arith))

-- all of them
pub number_all : (names xs : List (List ℕ)) (old : List ℕ) (n i : ℕ) → i ≡ length xs → numbered names n (take i xs) ++ drop i old ≡ over (numbered names n xs) old
unfolding over
number_all names xs old n i e =
    ap (λ (i : ℕ). numbered names n (take i xs) ++ drop i old) e
    ∙ ap (λ (ys : List (List ℕ)). numbered names n ys ++ drop (length xs) old) (take-length xs)
    ∙ ap (λ (k : ℕ). numbered names n xs ++ drop k old) (sym (length-numbered names n xs))

pub none-added : (names xs : List (List ℕ)) (n : ℕ) (old : List ℕ) → (length (added names (take 0 xs)) ≡ 0) × (numbered names n (take 0 xs) ++ drop 0 old ≡ old)
unfolding added numbered
none-added names xs n old = (refl, refl)

pub added-all : (names xs : List (List ℕ)) (i : ℕ) → i ≡ length xs → length (added names (take i xs)) ≡ length (added names xs)
added-all names xs i e = ap (λ (i : ℕ). length (added names (take i xs))) e ∙ ap (λ (ys : List (List ℕ)). length (added names ys)) (take-length xs)

-- one code more, put through f
pub paste_more : (f : ℕ → ℕ) (codes old row : List ℕ) (at i : ℕ) → at + length codes ≤ length old → i < length codes → row ≡ paste old at (map f codes) i
    → set row (at + i) (f (get_or codes i 0)) ≡ paste old at (map f codes) (i + 1)
paste_more f codes old row at i h l e =
    ap (λ (w : List ℕ). set w (at + i) (f (get_or codes i 0))) e
    ∙ ap (λ (x : ℕ). set (paste old at (map f codes) i) (at + i) x) (sym (at_map codes i l))
    ∙ rw add-one (paste-suc old at (map f codes) i 0 (omega arith) (omega (arith, length-map codes f)))
  where
    at_map : (cs : List ℕ) (i : ℕ) → i < length cs → get_or (map f cs) i 0 ≡ f (get_or cs i 0)
    at_map [] i h = absurd (omega arith)
    at_map (c ∷ cs) zero h = refl
    at_map (c ∷ cs) (suc i) h = at_map cs i (omega arith)
