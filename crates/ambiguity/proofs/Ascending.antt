-- Lists that ascend strictly by some order, however they are put together. Assumes nothing.
use mathlib.Core.Path.{sym, subst}
use mathlib.Core.Bool.{Bool, true, false}
use mathlib.Core.List.{List, [], ◌∷◌, ◌++◌, map}
use mathlib.Core.Logic.{inl, inr}
use Rattle.grammar.specs.Basics.{when, each, Mem, here, there}
use Rattle.triple_laws.proofs.Members.{no_element, mem_either, of-each, of_map}

-- each element is before all that follow it
pub data Ascending {A : Type 0} (B : A → A → Type 0) : List A → Type 0 where
  none : Ascending B []
  more : {a : A} {l : List A} → ((c : A) → Mem c l → B a c) → Ascending B l → Ascending B (a ∷ l)

-- a list of one element
pub ascending_one : {A : Type 0} (B : A → A → Type 0) (a : A) → Ascending B (a ∷ [])
ascending_one B a = more (λ c h. absurd (no_element h)) none

-- two lists, the first before the second
pub ascending_append : {A : Type 0} (B : A → A → Type 0) (l m : List A) → Ascending B l → Ascending B m
    → ((a c : A) → Mem a l → Mem c m → B a c) → Ascending B (l ++ m)
ascending_append B [] m none e n = e
ascending_append B (a ∷ l) m (more low d) e n =
    more {a = a} {l = l ++ m} (λ c h. elim (mem_either l m h) [ inl k ↦ low c k | inr k ↦ n a c here k ])
    (ascending_append B l m d e (λ b c h k. n b c (there h) k))

-- under a test
pub ascending_when : {A : Type 0} (B : A → A → Type 0) (b : Bool) (l : List A) → Ascending B l → Ascending B (when b l)
ascending_when B true l d = d
ascending_when B false l d = none

-- the image under a function that keeps the order
pub ascending_map : {A C : Type 0} (B : A → A → Type 0) (D : C → C → Type 0) (f : A → C) (l : List A) → Ascending B l
    → ((a c : A) → B a c → D (f a) (f c)) → Ascending D (map f l)
ascending_map B D f [] none n = none
ascending_map B D f (a ∷ l) (more low d) n =
    more {a = f a} {l = map f l} (λ c h. let o = (of_map l f).0 h in subst (D (f a)) (sym o.2) (n a o.0 (low o.0 o.1)))
    (ascending_map B D f l d n)

-- the lists that f gives, if each ascends and they follow one another as their elements do
pub ascending_each : {A C : Type 0} (B : A → A → Type 0) (D : C → C → Type 0) (f : A → List C) (l : List A) → Ascending B l
    → ((a : A) → Ascending D (f a)) → ((a c : A) (x y : C) → B a c → Mem x (f a) → Mem y (f c) → D x y) → Ascending D (each l f)
unfolding each
ascending_each B D f [] none e n = none
ascending_each B D f (a ∷ l) (more low d) e n =
    ascending_append D (f a) (each l f) (e a) (ascending_each B D f l d e n)
    (λ x y h k. let o = (of-each l f).0 k in n a o.0 x y (low o.0 o.1) h o.2)
