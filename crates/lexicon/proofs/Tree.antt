-- The tree: keys and turns, one turn of a search, and what a search that ends tells. Assumes nothing.
use Prim.Native.Nat.{ℕ, zero, suc, ◌+◌, ◌-◌, ◌*◌, ◌/◌, ◌%◌, ◌^◌, ◌≤◌, ◌<◌}
use mathlib.Core.Path.{◌≡◌, refl, ap, ap₂, sym, ◌∙◌, subst}
use mathlib.Core.List.{List, [], ◌∷◌, map}
use mathlib.Core.Bool.{Bool, true, false, ◌&&◌}
use native.Mathlib.Omega.{arith}
use native.Mathlib.Nat.{zero-div}
use borrow.Author.Tests.{eqb-true, eqb-false, lt-ltb, le-ltb}
use lib.Dec.{eqb, ltb}
use lib.ListN.{length, get_or, set, replicate}
use lib.Seq.{get_or-set_same, get_or-set_other}
use Rattle.grammar.specs.Basics.{choose}
use Rattle.grammar.proofs.Answers.{no_bool}
use Rattle.text.specs.Names.{folded, same_name}
use Rattle.std.specs.Prelude.{Result, Ok, Err, fold}
use Rattle.lexicon.specs.Tree.{folded_name, key_bits, key_skip, key_span, key_factor, key_from, key_of, byte_bit, turn, Below, here, down, Keeps, Grown, Hit, Gap, Told}

-- the key of a name, byte by byte
pub key_fold : (k : ℕ) (x : List ℕ) → fold (λ (k b : ℕ). (k % key_span + folded b) * key_factor) k x ≡ key_from k (folded_name x)
unfolding key_from folded_name
key_fold k [] = refl
key_fold k (b ∷ x) = key_fold ((k % key_span + folded b) * key_factor) x

-- a turn by the key, past the end of the name, and by the name
pub turn-key : (x : List ℕ) (key d : ℕ) → key ≡ key_of (folded_name x) → d < key_bits → key / 2 ^ (key_skip + d) % 2 ≡ turn (folded_name x) d
unfolding turn
turn-key x key d e h = rw (lt-ltb d key_bits h) (ap (λ (k : ℕ). k / 2 ^ (key_skip + d) % 2) e)

pub turn-past : (x : List ℕ) (d : ℕ) → key_bits ≤ d → length x ≤ (d - key_bits) / 8 → turn (folded_name x) d ≡ 0
unfolding turn byte_bit folded_name
turn-past x d h l = rw (le-ltb d key_bits h, past x ((d - key_bits) / 8) l, zero-div)
  where
    past : (x : List ℕ) (i : ℕ) → length x ≤ i → get_or (map folded x) i 0 ≡ 0
    past [] i h = refl
    past (b ∷ x) zero h = absurd (omega arith)
    past (b ∷ x) (suc i) h = past x i (omega arith)

pub turn_byte : (x : List ℕ) (d : ℕ) → key_bits ≤ d → (d - key_bits) / 8 < length x
    → turn (folded_name x) d ≡ folded (get_or x ((d - key_bits) / 8) 0) / 2 ^ ((d - key_bits) % 8) % 2
unfolding turn byte_bit folded_name
turn_byte x d h l = rw (le-ltb d key_bits h, within x ((d - key_bits) / 8) l)
  where
    within : (x : List ℕ) (i : ℕ) → i < length x → get_or (map folded x) i 0 ≡ folded (get_or x i 0)
    within [] i h = absurd (omega arith)
    within (b ∷ x) zero h = refl
    within (b ∷ x) (suc i) h = within x i (omega arith)

pub turn_small : (x : List ℕ) (d : ℕ) → turn x d < 2
unfolding turn byte_bit
turn_small x d = go (ltb d key_bits)
  where
    go : (t : Bool) → choose t (key_of x / 2 ^ (key_skip + d) % 2) (get_or x ((d - key_bits) / 8) 0 / 2 ^ ((d - key_bits) % 8) % 2) < 2
    go true = omega arith
    go false = omega arith

-- names are the same just if the same of them counts
pub same-folded : (x y : List ℕ) → same_name x y ≡ true → folded_name x ≡ folded_name y
unfolding same_name folded_name
same-folded [] [] h = refl
same-folded [] (b ∷ y) h = no_bool (sym h)
same-folded (a ∷ x) [] h = no_bool (sym h)
same-folded (a ∷ x) (b ∷ y) h = go (eqb (folded a) (folded b)) refl (λ e. same-folded x y e) h
  where
    go : (t : Bool) → eqb (folded a) (folded b) ≡ t → (same_name x y ≡ true → map folded x ≡ map folded y) → t && same_name x y ≡ true
        → folded a ∷ map folded x ≡ folded b ∷ map folded y
    go true e ih q = ap₂ (λ u w. u ∷ w) (eqb-true _ _ e) (ih q)
    go false e ih q = no_bool (sym q)

pub folded-same : (x y z : List ℕ) → folded_name x ≡ folded_name y → same_name x z ≡ same_name y z
unfolding same_name folded_name
folded-same [] [] z h = refl
folded-same [] (b ∷ y) z h = absurd (omega (arith, let e : 0 ≡ suc (length (map folded y)) = ap length h in e))
folded-same (a ∷ x) [] z h = absurd (omega (arith, let e : suc (length (map folded x)) ≡ 0 = ap length h in e))
folded-same (a ∷ x) (b ∷ y) [] h = refl
folded-same (a ∷ x) (b ∷ y) (c ∷ z) h =
    ap₂ (λ (u v : Bool). u && v) (ap (λ (w : ℕ). eqb w (folded c)) (ap (λ (l : List ℕ). get_or l 0 0) h)) (folded-same x y z (ap tail h))
  where
    tail : List ℕ → List ℕ
    tail [] = []
    tail (w ∷ l) = l

-- what is met stays met where links are kept
pub below_keeps : {C D k : List ℕ} {s d q : ℕ} → Keeps C D → Below C k s d q → Below D k s d q
below_keeps m (here e) = here e
below_keeps {C} {D} {k} {s} {d} {q} m (down h b) =
    let e = m.kept (2 * q + turn k d) h in
    down {d = d} {q = q} (omega arith) (subst (λ (w : ℕ). Below D k s (d + 1) w) (sym e) (below_keeps m b))

-- a link written where none was
pub keeps_set : (C : List ℕ) (i a : ℕ) → get_or C i 0 ≡ 0 → Keeps C (set C i a)
keeps_set C i a e = record { kept = λ j h. get_or-set_other C i j a 0 (λ q. let z : get_or C j 0 ≡ 0 = ap (λ (w : ℕ). get_or C w 0) q ∙ e in omega arith) }

-- One turn of the search, from name q at depth d.
module _ (name : ℕ → List ℕ) (C : List ℕ) (count : ℕ) (x : List ℕ) (q d : ℕ) where
  -- each of the names that is x is still ahead
  abbrev pub Still : Type 0
  Still = (s : ℕ) → s < count → same_name x (name s) ≡ true → Below C (folded_name x) s d q

  -- what is met from here is met from the first
  abbrev pub Led : Type 0
  Led = (D : List ℕ) → Keeps C D → (s : ℕ) → Below D (folded_name x) s d q → Below D (folded_name x) s 0 0

module _ (name : ℕ → List ℕ) (C : List ℕ) (count : ℕ) (x : List ℕ) where
  -- the first turn
  pub seek_start : Grown name C count → Still name C count x 0 0 × Led name C count x 0 0
  seek_start g = (
    λ s l e. subst (λ (k : List ℕ). Below C k s 0 0) (sym (same-folded x (name s) e)) (g.held s l),
    λ D m s b. b,
  )

module _ (name : ℕ → List ℕ) (C : List ℕ) (count : ℕ) (x : List ℕ) (q d : ℕ) (still : Still name C count x q d) (led : Led name C count x q d)
    (other : same_name x (name q) ≡ false) where
  keeps_self : Keeps C C
  keeps_self = record { kept = λ i h. refl }

  -- the way on, where the name itself is not it
  onward : (s : ℕ) → same_name x (name s) ≡ true → Below C (folded_name x) s d q
      → (0 < get_or C (2 * q + turn (folded_name x) d) 0) × Below C (folded_name x) s (d + 1) (get_or C (2 * q + turn (folded_name x) d) 0)
  onward s e (here p) = no_bool (sym (ap (λ (w : ℕ). same_name x (name w)) p ∙ e) ∙ other)
  onward s e (down h b) = (h, b)

  pub seek_on : (r : ℕ) → r ≡ get_or C (2 * q + turn (folded_name x) d) 0 → 0 < r → Still name C count x r (d + 1) × Led name C count x r (d + 1)
  seek_on r e p = (
    (λ s l t. subst (λ (w : ℕ). Below C (folded_name x) s (d + 1) w) (sym e) (onward s t (still s l t)).1),
    (λ D m s b. let k = m.kept (2 * q + turn (folded_name x) d) (omega arith) in
        led D m s (down {d = d} {q = q} (omega arith) (subst (λ (w : ℕ). Below D (folded_name x) s (d + 1) w) (e ∙ sym k) b))),
  )

  pub seek_gap : (i : ℕ) → i ≡ 2 * q + turn (folded_name x) d → q < count → get_or C i 0 ≡ 0 → Gap name C count x i
  seek_gap i e l o =
      let e' : 2 * q + turn (folded_name x) d ≡ i = sym e in
      let t = turn_small (folded_name x) d in
      record {
        near = omega arith;
        empty = o;
        absent = λ s k. no_true (same_name x (name s)) (λ t. let h = (onward s t (still s k t)).0 in let z : get_or C (2 * q + turn (folded_name x) d) 0 ≡ 0 = ap (λ (w : ℕ). get_or C w 0) e' ∙ o in omega arith);
        led = λ D m h. led D m (get_or D i 0) (down {d = d} {q = q} (rw e' h) (here (ap (λ (w : ℕ). get_or D w 0) e')));
      }
    where
      no_true : (b : Bool) → (b ≡ true → ⊥) → b ≡ false
      no_true true n = absurd (n refl)
      no_true false n = refl

-- a row of zeros has no link
pub no_links : (n i : ℕ) → ◌≡◌ {A = ℕ} (get_or (replicate n 0) i 0) 0
no_links zero i = refl
no_links (suc n) zero = refl
no_links (suc n) (suc i) = no_links n i

-- an empty tree has name 0
pub grown_one : (name : ℕ → List ℕ) (C : List ℕ) → ((i : ℕ) → get_or C i 0 ≡ 0) → Grown name C 1
grown_one name C none = record {
  root = omega arith;
  link = λ i p. absurd (omega (arith, none i));
  forward = λ i p. absurd (omega (arith, none i));
  held = λ s l. here {q = 0} (omega arith);
}

-- a name that is not there is put in
pub grow : (name : ℕ → List ℕ) (C : List ℕ) (count i : ℕ) → Grown name C count → Gap name C count (name count) i → i < length C
    → Grown name (set C i count) (count + 1)
grow name C count i g h inside = record {
  root = omega arith;
  link = λ j p. link j (eqb j i) refl p;
  forward = λ j p. forward j (eqb j i) refl p;
  held = λ s l. held s l (eqb s count) refl;
}
  where
    keeps : Keeps C (set C i count)
    keeps = keeps_set C i count h.empty

    at : get_or (set C i count) i 0 ≡ count
    at = get_or-set_same C i count 0 inside

    other : (j : ℕ) → eqb j i ≡ false → get_or (set C i count) j 0 ≡ get_or C j 0
    other j q = get_or-set_other C i j count 0 (eqb-false j i q)

    here-at : (j : ℕ) → eqb j i ≡ true → get_or (set C i count) j 0 ≡ count
    here-at j q = ap (λ (w : ℕ). get_or (set C i count) w 0) (eqb-true j i q) ∙ at

    link : (j : ℕ) (t : Bool) → eqb j i ≡ t → 0 < get_or (set C i count) j 0 → get_or (set C i count) j 0 < count + 1
    link j true q p = omega (arith, here-at j q)
    link j false q p = omega (arith, other j q, g.link j (omega (arith, other j q)))

    forward : (j : ℕ) (t : Bool) → eqb j i ≡ t → 0 < get_or (set C i count) j 0 → j < 2 * get_or (set C i count) j 0
    forward j true q p = omega (arith, here-at j q, eqb-true j i q, h.near)
    forward j false q p = omega (arith, other j q, g.forward j (omega (arith, other j q)))

    held : (s : ℕ) → s < count + 1 → (t : Bool) → eqb s count ≡ t → Below (set C i count) (folded_name (name s)) s 0 0
    held s l true q =
        subst (λ (w : ℕ). Below (set C i count) (folded_name (name w)) w 0 0) (sym (eqb-true s count q))
        (subst (λ (w : ℕ). Below (set C i count) (folded_name (name count)) w 0 0) at (h.led (set C i count) keeps (omega (arith, at, g.root))))
    held s l false q = below_keeps keeps (g.held s (omega (arith, eqb-false s count q)))

-- what an answer of the search tells
pub told_same : (name : ℕ → List ℕ) (C : List ℕ) (count : ℕ) (x : List ℕ) (r : Result ℕ ℕ) (q : ℕ) → r ≡ Ok q → Told name C count x r → Hit name C count x q
told_same name C count x r q e t = subst (λ (r : Result ℕ ℕ). Told name C count x r) e t

pub told_free : (name : ℕ → List ℕ) (C : List ℕ) (count : ℕ) (x : List ℕ) (r : Result ℕ ℕ) (i : ℕ) → r ≡ Err i → Told name C count x r → Gap name C count x i
told_free name C count x r i e t = subst (λ (r : Result ℕ ℕ). Told name C count x r) e t
