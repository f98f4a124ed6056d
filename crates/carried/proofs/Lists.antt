-- Lists mapped and gathered. Assumes nothing.
use Prim.Native.Nat.{ℕ}
use mathlib.Core.Path.{◌≡◌, refl, ap, ap₂, sym, subst, ◌∙◌}
use mathlib.Core.Bool.{Bool, true, false}
use mathlib.Core.List.{List, [], ◌∷◌, ◌++◌, map, map-append}
use mathlib.Core.Logic.{inl, inr}
use Rattle.grammar.specs.Basics.{when, each, Mem, here, there, Distinct, none, more}
use Rattle.grammar.proofs.Plain.{mem_cases}

pub map_same : {A B : Type 0} (f g : A → B) → ((a : A) → f a ≡ g a) → (l : List A) → map f l ≡ map g l
map_same f g h [] = refl
map_same f g h (a ∷ l) = ap₂ (λ x y. x ∷ y) (h a) (map_same f g h l)

pub when-map : {A B : Type 0} (f : A → B) (c : Bool) (l : List A) → when c (map f l) ≡ map f (when c l)
when-map f true l = refl
when-map f false l = refl

-- a list under a test, then another, mapped
pub then_map : {A B : Type 0} (f : A → B) (c : Bool) (l m : List A) → when c (map f l) ++ map f m ≡ map f (when c l ++ m)
then_map f c l m = ap (λ u. u ++ map f m) (when-map f c l) ∙ sym (map-append f (when c l) m)

-- what is gathered, mapped
pub each_map : {A B C : Type 0} (k : B → C) (l : List A) (f : A → List C) (g : A → List B) → ((a : A) → f a ≡ map k (g a))
    → each l f ≡ map k (each l g)
unfolding each
each_map k [] f g h = refl
each_map k (a ∷ l) f g h = ap₂ (λ u v. u ++ v) (h a) (each_map k l f g h) ∙ sym (map-append k (g a) (each l g))

-- gathered from a mapped list
pub each_from : {A B C : Type 0} (k : A → B) (l : List A) (f : B → List C) → each (map k l) f ≡ each l (λ a. f (k a))
unfolding each
each_from k [] f = refl
each_from k (a ∷ l) f = ap (λ u. f (k a) ++ u) (each_from k l f)

-- elements of a mapped list
pub mem_map : {A B : Type 0} (f : A → B) (b : B) (l : List A) → Mem b (map f l) → (a : A) × Mem a l × (f a ≡ b)
mem_map f b [] m = elim m [ ]
mem_map f b (a ∷ l) m =
    elim (mem_cases m) [
      | inl e ↦ (a, here, e)
      | inr k ↦ let r = mem_map f b l k in (r.0, there r.1, r.2)
    ]

pub distinct_map : {A B : Type 0} (f : A → B) → ((a c : A) → f a ≡ f c → a ≡ c) → (l : List A) → Distinct l → Distinct (map f l)
distinct_map f back [] none = none
distinct_map f back (a ∷ l) (more n k) =
    more (λ m. let r = mem_map f (f a) l m in n (subst (λ c. Mem c l) (back r.0 a r.2) r.1)) (distinct_map f back l k)
