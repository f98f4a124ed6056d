-- From the numbers that a search tells to `first_double` and `place`. Assumes nothing.
use Prim.Native.Nat.{ℕ, zero, suc, ◌+◌, ◌-◌, ◌≤◌, ◌<◌}
use mathlib.Core.Path.{◌≡◌, refl, ap, sym, ◌∙◌}
use mathlib.Core.List.{List, [], ◌∷◌, ◌++◌}
use mathlib.Core.Bool.{Bool, true, false, ◌||◌}
use native.Mathlib.Omega.{arith}
use lib.ListN.{length, get_or, take, drop}
use Rattle.text.specs.Names.{any, same_name, place}
use Rattle.text.specs.Print.{first_double}
use Rattle.text.specs.Spelled.{spelled}
use Rattle.text.proofs.Spans.{length-spelled, spelled_at}
use Rattle.lexicon.specs.Tree.{name_of, Spans}
use Rattle.lexicon.proofs.Tree.{same-folded, folded-same}

-- some element passes, by its place; none does
any_at : {A : Type 0} (p : A → Bool) (l : List A) (d : A) (i : ℕ) → i < length l → p (get_or l i d) ≡ true → any p l ≡ true
unfolding any
any_at p [] d i h e = absurd (omega arith)
any_at p (x ∷ l) d zero h e = rw e
any_at p (x ∷ l) d (suc i) h e = rw (any_at p l d i (omega arith) e) (go (p x))
  where
    go : (b : Bool) → b || true ≡ true
    go true = refl
    go false = refl

any_never : {A : Type 0} (p : A → Bool) (l : List A) (d : A) → ((i : ℕ) → i < length l → p (get_or l i d) ≡ false) → any p l ≡ false
unfolding any
any_never p [] d h = refl
any_never p (x ∷ l) d h = rw (h 0 (omega arith), any_never p l d (λ i k. h (suc i) (omega arith)))

get_d_left : {A : Type 0} (l m : List A) (d : A) (i : ℕ) → i < length l → get_or (l ++ m) i d ≡ get_or l i d
get_d_left [] m d i h = absurd (omega arith)
get_d_left (x ∷ l) m d zero h = refl
get_d_left (x ∷ l) m d (suc i) h = get_d_left l m d i (omega arith)

get_d_right : {A : Type 0} (l m : List A) (d : A) (i : ℕ) → get_or (l ++ m) (length l + i) d ≡ get_or m i d
get_d_right [] m d i = ap (λ (k : ℕ). get_or m k d) (let z : 0 + i ≡ i = omega arith in z)
get_d_right (x ∷ l) m d i = ap (λ (k : ℕ). get_or (x ∷ (l ++ m)) k d) (let z : suc (length l) + i ≡ suc (length l + i) = omega arith in z) ∙ get_d_right l m d i

snoc_length : {A : Type 0} (l : List A) (x : A) → length (l ++ (x ∷ [])) ≡ length l + 1
snoc_length [] x = refl
snoc_length (y ∷ l) x = let h = snoc_length l x in omega arith

snoc_append : {A : Type 0} (l : List A) (x : A) (m : List A) → (l ++ (x ∷ [])) ++ m ≡ l ++ (x ∷ m)
snoc_append [] x m = refl
snoc_append (y ∷ l) x m = ap (λ k. y ∷ k) (snoc_append l x m)

-- the first of the names after the earlier ones that one before it has
double_from : (earlier rest : List (List ℕ)) (r : ℕ) → r ≤ length rest
    → ((j i : ℕ) → j < r → i < length earlier + j → same_name (get_or (earlier ++ rest) (length earlier + j) []) (get_or (earlier ++ rest) i []) ≡ false)
    → (r < length rest → (i : ℕ) × (i < length earlier + r) × (same_name (get_or (earlier ++ rest) (length earlier + r) []) (get_or (earlier ++ rest) i []) ≡ true))
    → first_double earlier rest ≡ r
unfolding first_double
double_from earlier [] r h none some = omega arith
double_from earlier (x ∷ rest) zero h none some =
    let s = some (omega arith) in
    let at : get_or (earlier ++ (x ∷ rest)) (length earlier + 0) [] ≡ x = get_d_right earlier (x ∷ rest) [] 0 in
    let i : s.0 < length earlier = omega (arith, s.1) in
    let e : same_name x (get_or earlier s.0 []) ≡ true
    = ap (same_name x) (sym (get_d_left earlier (x ∷ rest) [] s.0 i)) ∙ sym (ap (λ (w : List ℕ). same_name w (get_or (earlier ++ (x ∷ rest)) s.0 [])) at) ∙ s.2 in
    rw (any_at (same_name x) earlier [] s.0 i e)
double_from earlier (x ∷ rest) (suc r) h none some =
    let at : get_or (earlier ++ (x ∷ rest)) (length earlier + 0) [] ≡ x = get_d_right earlier (x ∷ rest) [] 0 in
    let first : any (same_name x) earlier ≡ false = any_never (same_name x) earlier [] (λ i l.
    ap (same_name x) (sym (get_d_left earlier (x ∷ rest) [] i l)) ∙ sym (ap (λ (w : List ℕ). same_name w (get_or (earlier ++ (x ∷ rest)) i [])) at)
    ∙ none 0 i (omega arith) (omega (arith, l))) in
    let q : (earlier ++ (x ∷ [])) ++ rest ≡ earlier ++ (x ∷ rest) = snoc_append earlier x rest in
    let n = snoc_length earlier x in
    let place : (j : ℕ) → length (earlier ++ (x ∷ [])) + j ≡ length earlier + suc j = λ j. omega (arith, n) in
    rw first (ap suc (double_from (earlier ++ (x ∷ [])) rest r (omega arith)
    (λ j i l k. ap (λ (w : List (List ℕ)). same_name (get_or w (length (earlier ++ (x ∷ [])) + j) []) (get_or w i [])) q
    ∙ ap (λ (w : ℕ). same_name (get_or (earlier ++ (x ∷ rest)) w []) (get_or (earlier ++ (x ∷ rest)) i [])) (place j)
    ∙ none (suc j) i (omega arith) (omega (arith, k, n)))
    (λ l. let s = some (omega arith) in (
      s.0,
      omega (arith, s.1, n),
      ap (λ (w : List (List ℕ)). same_name (get_or w (length (earlier ++ (x ∷ [])) + r) []) (get_or w s.0 [])) q
          ∙ ap (λ (w : ℕ). same_name (get_or (earlier ++ (x ∷ rest)) w []) (get_or (earlier ++ (x ∷ rest)) s.0 [])) (place r) ∙ s.2,
    ))))

-- the first element that passes, by its place
place_at_lem : {A : Type 0} (p : A → Bool) (l : List A) (d : A) (q : ℕ) → q < length l → p (get_or l q d) ≡ true → ((i : ℕ) → i < q → p (get_or l i d) ≡ false) → place p l ≡ q
unfolding place
place_at_lem p [] d q h e f = absurd (omega arith)
place_at_lem p (x ∷ l) d zero h e f = rw e
place_at_lem p (x ∷ l) d (suc q) h e f = rw (f 0 (omega arith), place_at_lem p l d q (omega arith) e (λ i k. f (suc i) (omega arith)))

place_none : {A : Type 0} (p : A → Bool) (l : List A) (d : A) → ((i : ℕ) → i < length l → p (get_or l i d) ≡ false) → place p l ≡ length l
unfolding place
place_none p [] d f = refl
place_none p (x ∷ l) d f = rw (f 0 (omega arith), place_none p l d (λ i k. f (suc i) (omega arith)))

module _ (text starts lengths : List ℕ) (spans : Spans text starts lengths) where
  abbrev names : List (List ℕ)
  names = spelled text starts lengths

  name_is : (i : ℕ) → i < length starts → get_or names i [] ≡ name_of text starts lengths i
  unfolding name_of
  name_is i h = spelled_at text starts lengths i spans.paired h

  as_many : length names ≡ length starts
  as_many = length-spelled text starts lengths spans.paired

  same_is : (i j : ℕ) → i < length starts → j < length starts → same_name (get_or names i []) (get_or names j []) ≡ same_name (name_of text starts lengths i) (name_of text starts lengths j)
  same_is i j h k = ap (λ (w : List ℕ). same_name w (get_or names j [])) (name_is i h) ∙ ap (same_name (name_of text starts lengths i)) (name_is j k)

  -- the names before k are apart
  abbrev pub Apart : ℕ → Type 0
  Apart k = (i j : ℕ) → i < j → j < k → same_name (name_of text starts lengths j) (name_of text starts lengths i) ≡ false

  pub double_at : (k : ℕ) → k ≤ length starts → Apart k → (k < length starts → (i : ℕ) × (i < k) × (same_name (name_of text starts lengths k) (name_of text starts lengths i) ≡ true))
      → first_double [] names ≡ k
  double_at k h apart some = double_from [] names k (omega (arith, as_many))
      (λ j i l m. let z : 0 + j ≡ j = omega arith in
      ap (λ (w : ℕ). same_name (get_or names w []) (get_or names i [])) z ∙ same_is j i (omega arith) (omega (arith, m)) ∙ apart i j (omega (arith, m)) l)
      (λ l. let s = some (omega (arith, l, as_many)) in let z : 0 + k ≡ k = omega arith in
      (s.0, omega (arith, s.1), ap (λ (w : ℕ). same_name (get_or names w []) (get_or names s.0 [])) z ∙ same_is k s.0 (omega (arith, l, as_many)) (omega (arith, s.1)) ∙ s.2))

  -- name q is x: no earlier one is
  pub place_of : (x : List ℕ) (q : ℕ) → Apart (length starts) → q < length starts → same_name x (name_of text starts lengths q) ≡ true → place (same_name x) names ≡ q
  place_of x q apart h e =
      place_at_lem (same_name x) names [] q (omega (arith, as_many)) (ap (same_name x) (name_is q h) ∙ e)
      (λ i l. ap (same_name x) (name_is i (omega arith)) ∙ folded-same x (name_of text starts lengths q) (name_of text starts lengths i) (same-folded x (name_of text starts lengths q) e) ∙ apart i q l h)

  pub place-past : (x : List ℕ) → ((s : ℕ) → s < length starts → same_name x (name_of text starts lengths s) ≡ false) → place (same_name x) names ≡ length starts
  place-past x f = place_none (same_name x) names [] (λ i l. ap (same_name x) (name_is i (omega (arith, l, as_many))) ∙ f i (omega (arith, l, as_many))) ∙ as_many

-- the part from a name's start on, of its length, is the name
pub part_is : (text starts lengths : List ℕ) (q : ℕ) → take (get_or starts q 0 + get_or lengths q 0 - get_or starts q 0) (drop (get_or starts q 0) text) ≡ name_of text starts lengths q
unfolding name_of
part_is text starts lengths q =
    let z : get_or starts q 0 + get_or lengths q 0 - get_or starts q 0 ≡ get_or lengths q 0 = omega arith in
    ap (λ (v : ℕ). take v (drop (get_or starts q 0) text)) z
