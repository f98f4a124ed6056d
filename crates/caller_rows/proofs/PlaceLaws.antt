-- The places of classes in rows: the same in rows that have two classes at the same places, and end to end each once; the
-- segments of a sort; and rows whose front is written. Assumes nothing.
use Prim.Native.Nat.{ℕ, zero, suc, ◌+◌, ◌-◌, ◌≤◌, ◌<◌}
use mathlib.Core.Path.{◌≡◌, refl, sym, ap, ap₂, subst, ◌∙◌}
use mathlib.Core.Bool.{Bool, true, false}
use mathlib.Core.List.{List, [], ◌∷◌, ◌++◌}
use mathlib.Core.Logic.{◌↔◌, ⊎_elim}
use native.Mathlib.Omega.{arith}
use lib.Dec.{eqb}
use lib.ListN.{length, get_or, drop, replicate, length-append, length-take, length-drop}
use lib.Seq.{get_or-take, get_or-drop, get_or-append-add}
use borrow.Author.Tests.{eqb-true, eqb-false, eq-eqb, ne_eqb}
use Rattle.grammar.specs.Basics.{when, over, Mem, Distinct, none, more}
use Rattle.triple_laws.proofs.Members.{no_element, place_mem, mem_either, distinct_append}
use Rattle.moves.specs.Tables.{places_from, places, joined, segment}
use Rattle.moves.proofs.Places.{places_exactly, places_ascend, ascends_distinct}

-- two tests of equations that hold together
same_test : (x c y d : ℕ) → (x ≡ c) ↔ (y ≡ d) → eqb x c ≡ eqb y d
same_test x c y d e = go (eqb x c) refl
  where
    go : (b : Bool) → eqb x c ≡ b → b ≡ eqb y d
    go true q = sym (eq-eqb y d (e.0 (eqb-true x c q)))
    go false q = sym (ne_eqb y d (λ z. eqb-false x c q (e.1 z)))

-- rows that have two classes at the same places
pub places_alike : (i c d : ℕ) (xs ys : List ℕ) → length xs ≡ length ys → ((p : ℕ) → p < length xs → (get_or xs p 0 ≡ c) ↔ (get_or ys p 0 ≡ d))
    → places_from i c xs ≡ places_from i d ys
unfolding places_from
places_alike i c d [] [] l e = refl
places_alike i c d [] (y ∷ ys) l e = absurd (omega (arith, l))
places_alike i c d (x ∷ xs) [] l e = absurd (omega (arith, l))
places_alike i c d (x ∷ xs) (y ∷ ys) l e =
    ap₂ (λ b k. when b (i ∷ []) ++ k) (same_test x c y d (e 0 (omega arith)))
    (places_alike (i + 1) c d xs ys (omega (arith, l)) (λ p h. e (suc p) (omega (arith, h))))

-- a row without a class
places-none : (i c : ℕ) (xs : List ℕ) → ((p : ℕ) → p < length xs → get_or xs p 0 ≡ c → ⊥) → places_from i c xs ≡ []
unfolding places_from
places-none i c [] e = refl
places-none i c (x ∷ xs) e =
    ap₂ (λ b k. when b (i ∷ []) ++ k) (ne_eqb x c (e 0 (omega arith))) (places-none (i + 1) c xs (λ p h. e (suc p) (omega (arith, h))))

-- a row that has a class at its first place only
pub places-first : (c : ℕ) (row : List ℕ) → 0 < length row → get_or row 0 0 ≡ c → ((p : ℕ) → suc p < length row → get_or row (suc p) 0 ≡ c → ⊥)
    → places row c ≡ 0 ∷ []
unfolding places_from
places-first c [] h q e = absurd (omega (arith, h))
places-first c (x ∷ xs) h q e =
    ap₂ (λ b k. when b (0 ∷ []) ++ k) (eq-eqb x c q) (places-none (0 + 1) c xs (λ p l. e p (omega (arith, l))))

-- places of classes below n, end to end: each once, each of such a class
pub record Placed (row : List ℕ) (n : ℕ) (l : List ℕ) : Type 0 where
  pub once : Distinct l
  pub class : (t : ℕ) → Mem t l → get_or row t 0 < n
  pub within : (t : ℕ) → Mem t l → t < length row

-- such are the places of these classes
pub joined-placed : (row : List ℕ) (n : ℕ) → Placed row n (joined (places row) n)
unfolding joined
joined-placed row zero = record { once = none; class = λ t m. absurd (no_element m); within = λ t m. absurd (no_element m) }
joined-placed row (suc n) =
    let r = joined-placed row n in
    let p : (t : ℕ) → Mem t (places row n) → (t < length row) × (get_or row t 0 ≡ n) = λ t m. (places_exactly row n t).0 m in
    record {
      once = distinct_append (joined (places row) n) (places row n) r.once
          (ascends_distinct 0 (0 + length row) (places row n) (places_ascend n row 0))
          (λ t a b. let z = r.class t a in let y = (p t b).1 in omega (arith, z, y));
      class = λ t m. ⊎_elim (λ a. let z = r.class t a in omega (arith, z)) (λ b. let y = (p t b).1 in omega (arith, y)) (mem_either (joined (places row) n) (places row n) m);
      within = λ t m. ⊎_elim (λ a. r.within t a) (λ b. (p t b).0) (mem_either (joined (places row) n) (places row n) m);
    }

-- how long a segment is at most
pub segment-most : (first targets : List ℕ) (c : ℕ) → length (segment first targets c) ≤ get_or first (c + 1) 0 - get_or first c 0
unfolding segment
segment-most first targets c = omega (arith, length-take (get_or first (c + 1) 0 - get_or first c 0) (drop (get_or first c 0) targets))

-- an entry of a segment
pub segment-at : (first targets : List ℕ) (c r : ℕ) → r < get_or first (c + 1) 0 - get_or first c 0
    → get_or (segment first targets c) r 0 ≡ get_or targets (get_or first c 0 + r) 0
unfolding segment
segment-at first targets c r h =
    get_or-take (get_or first (c + 1) 0 - get_or first c 0) (drop (get_or first c 0) targets) r 0 h ∙ get_or-drop (get_or first c 0) targets r 0

-- places of a list without doubles
pub distinct_places : (l : List ℕ) → Distinct l → (k j : ℕ) → k < length l → j < length l → get_or l k 0 ≡ get_or l j 0 → k ≡ j
distinct_places [] d k j hk hj e = absurd (omega arith)
distinct_places (a ∷ l) d zero zero hk hj e = refl
distinct_places (a ∷ l) (more n d) zero (suc j) hk hj e = absurd (n (subst (λ (b : ℕ). Mem b l) (sym e) (place_mem l j 0 (omega arith))))
distinct_places (a ∷ l) (more n d) (suc k) zero hk hj e = absurd (n (subst (λ (b : ℕ). Mem b l) e (place_mem l k 0 (omega arith))))
distinct_places (a ∷ l) (more n d) (suc k) (suc j) hk hj e = ap suc (distinct_places l d k j (omega arith) (omega arith) e)

-- past its front a row is as it was
pub over-past : (front old : List ℕ) (k : ℕ) → length front ≤ k → get_or (over front old) k 0 ≡ get_or old k 0
unfolding over
over-past front old k h =
    let j = k - length front in
    let e : k ≡ length front + j = omega (arith, h) in
    ap (λ k. get_or (front ++ drop (length front) old) k 0) e ∙ get_or-append-add front (drop (length front) old) j 0 ∙ get_or-drop (length front) old j 0
    ∙ ap (λ k. get_or old k 0) (sym e)

-- and it is as long
pub over-size : (front old : List ℕ) → length front ≤ length old → length (over front old) ≡ length old
unfolding over
over-size front old h = omega (arith, h, length-append front (drop (length front) old), length-drop (length front) old)

-- a row of zeros, within and past its end
pub zeros : (n k : ℕ) → get_or (replicate {A = ℕ} n 0) k 0 ≡ 0
zeros zero k = refl
zeros (suc n) zero = refl
zeros (suc n) (suc k) = zeros n k

-- what ascends by steps ascends
pub climbs : (f : ℕ → ℕ) (n : ℕ) → ((c : ℕ) → c < n → f c ≤ f (c + 1)) → (a b : ℕ) → a ≤ b → b ≤ n → f a ≤ f b
climbs f n up a b h l = subst (λ b. f a ≤ f b) (let e : (b - a) + a ≡ b = omega (arith, h) in e) (go (b - a) (omega (arith, h, l)))
  where
    go : (k : ℕ) → k + a ≤ n → f a ≤ f (k + a)
    go zero h = let e : f (0 + a) ≡ f a = ap f (let q : 0 + a ≡ a = omega arith in q) in omega (arith, e)
    go (suc k) h =
        let e : f (suc k + a) ≡ f (k + a + 1) = ap f (let q : suc k + a ≡ k + a + 1 = omega arith in q) in
        let z = up (k + a) (omega (arith, h)) in
        let y = go k (omega (arith, h)) in
        omega (arith, e, z, y)
