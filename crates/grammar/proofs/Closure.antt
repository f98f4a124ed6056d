-- What the rounds over clauses find is all that follows from the clauses, and nothing else. Assumes nothing.
use Prim.Native.Nat.{ℕ, zero, suc, ◌+◌, ◌≤◌, ◌<◌}
use mathlib.Core.Path.{◌≡◌, refl, ap, sym, subst, ◌∙◌}
use mathlib.Core.Bool.{Bool, true, false, not, ◌||◌}
use mathlib.Core.List.{List, [], ◌∷◌, ◌++◌}
use mathlib.Core.Logic.{◌⊎◌, inl, inr, ◌↔◌}
use native.Mathlib.Omega.{arith}
use lib.Dec.{eqb}
use lib.ListN.{length}
use borrow.Author.Tests.{eqb-true, eq-eqb}
use Rattle.grammar.specs.Basics.{when, Mem, here, there}
use Rattle.grammar.specs.Live.{Clause, has, has_all, concluded, waiting, rounds, closure}
use Rattle.grammar.proofs.Answers.{no_bool, and_both, both_and, or_one}
use Rattle.grammar.proofs.Lists.{no_element, mem_left, mem_right, mem_either}
use Rattle.grammar.proofs.Plain.{mem_cases}

-- the test of membership
has_mem : (l : List ℕ) (x : ℕ) → has l x ≡ true → Mem x l
unfolding has
has_mem [] x e = no_bool (sym e)
has_mem (y ∷ l) x e = elim (or_one (eqb y x) (has l x) e) [
  | inl a ↦ subst (λ y. Mem x (y ∷ l)) (sym (eqb-true y x a)) here
  | inr a ↦ there (has_mem l x a)
]

mem_has : {x : ℕ} {l : List ℕ} → Mem x l → has l x ≡ true
unfolding has
mem_has {x = x} (here {l = l}) = ap (λ b. b || has l x) (eq-eqb x x refl)
mem_has {x = x} (there {b = y} {l = l} m) = go (eqb y x) (mem_has m)
  where
    go : (b : Bool) → has l x ≡ true → b || has l x ≡ true
    go true e = refl
    go false e = e

pub has_is : (l : List ℕ) (x : ℕ) → (has l x ≡ true) ↔ Mem x l
has_is l x = (has_mem l x, λ m. mem_has m)

-- each of these is among those
abbrev pub All : (ℕ → Type 0) → List ℕ → Type 0
All P [] = Unit {0}
All P (x ∷ l) = P x × All P l

pub all_map : {P Q : ℕ → Type 0} → ((x : ℕ) → P x → Q x) → (l : List ℕ) → All P l → All Q l
all_map f [] a = tt
all_map f (x ∷ l) a = (f x a.0, all_map f l a.1)

all-out : (found l : List ℕ) → has_all found l ≡ true → All (λ x. Mem x found) l
unfolding has_all
all-out found [] e = tt
all-out found (x ∷ l) e = let a = and_both (has found x) (has_all found l) e in (has_mem found x a.0, all-out found l a.1)

all_in : (found l : List ℕ) → All (λ x. Mem x found) l → has_all found l ≡ true
unfolding has_all
all_in found [] a = refl
all_in found (x ∷ l) a = both_and (has found x) (has_all found l) (mem_has a.0) (all_in found l a.1)

pub all_is : (found l : List ℕ) → (has_all found l ≡ true) ↔ All (λ x. Mem x found) l
all_is found l = (all-out found l, all_in found l)

-- P is kept by the clauses: what follows from what has P has P
abbrev pub Kept : (ℕ → Type 0) → List Clause → Type 0
Kept P cs = (c : Clause) → Mem c cs → All P c.premises → P c.conclusion

-- a clause whose premises are found concludes; any other waits
concluded-out : (P : ℕ → Type 0) (found : List ℕ) (cs : List Clause) → ((x : ℕ) → Mem x found → P x) → Kept P cs
    → (x : ℕ) → Mem x (concluded found cs) → P x
unfolding concluded
concluded-out P found [] h k x m = absurd (no_element m)
concluded-out P found (c ∷ cs) h k x m = go (has_all found c.premises) refl m (concluded-out P found cs h (λ d n. k d (there n)) x)
  where
    go : (b : Bool) → has_all found c.premises ≡ b → Mem x (when b (c.conclusion ∷ []) ++ concluded found cs)
        → (Mem x (concluded found cs) → P x) → P x
    go true e m again = elim (mem_cases m) [
      | inl q ↦ subst P q (k c here (all_map h c.premises ((all_is found c.premises).0 e)))
      | inr n ↦ again n
    ]
    go false e m again = again m

waiting-out : (found : List ℕ) (cs : List Clause) (c : Clause) → Mem c (waiting found cs) → Mem c cs
unfolding waiting
waiting-out found [] c m = m
waiting-out found (d ∷ cs) c m = go (has_all found d.premises) m (waiting-out found cs c)
  where
    go : (b : Bool) → Mem c (when (not b) (d ∷ []) ++ waiting found cs) → (Mem c (waiting found cs) → Mem c cs) → Mem c (d ∷ cs)
    go true m again = there (again m)
    go false m again = elim (mem_cases m) [ inl q ↦ subst (λ d. Mem c (d ∷ cs)) (sym q) here | inr n ↦ there (again n) ]

either : (found : List ℕ) (cs : List Clause) (c : Clause) → Mem c cs → Mem c.conclusion (concluded found cs) ⊎ Mem c (waiting found cs)
unfolding concluded waiting
either found (d ∷ cs) c here = go (has_all found c.premises)
  where
    go : (b : Bool) → Mem c.conclusion (when b (c.conclusion ∷ []) ++ concluded found cs) ⊎ Mem c (when (not b) (c ∷ []) ++ waiting found cs)
    go true = inl here
    go false = inr here
either found (d ∷ cs) c (there m) = go (has_all found d.premises) (either found cs c m)
  where
    go : (b : Bool) → Mem c.conclusion (concluded found cs) ⊎ Mem c (waiting found cs)
        → Mem c.conclusion (when b (d.conclusion ∷ []) ++ concluded found cs) ⊎ Mem c (when (not b) (d ∷ []) ++ waiting found cs)
    go true (inl n) = inl (there n)
    go true (inr n) = inr n
    go false (inl n) = inl n
    go false (inr n) = inr (there n)
either found [] c x' = elim x' [ ]

-- a round in which no clause concludes changes nothing
abbrev Idle : List ℕ → List Clause → Type 0
Idle found cs = (c : Clause) → Mem c cs → has_all found c.premises ≡ false

idle_none : (found : List ℕ) (cs : List Clause) → Idle found cs → concluded found cs ≡ []
unfolding concluded
idle_none found [] h = refl
idle_none found (c ∷ cs) h = rw (h c here) (idle_none found cs (λ d m. h d (there m)))

idle_same : (found : List ℕ) (cs : List Clause) → Idle found cs → waiting found cs ≡ cs
unfolding waiting
idle_same found [] h = refl
idle_same found (c ∷ cs) h = rw (h c here) (ap (λ l. c ∷ l) (idle_same found cs (λ d m. h d (there m))))

idle_rounds : (m : ℕ) (found : List ℕ) (cs : List Clause) → Idle found cs → rounds m found cs ≡ found
unfolding rounds
idle_rounds zero found cs h = refl
idle_rounds (suc m) found cs h = rw (idle_none found cs h, idle_same found cs h) (idle_rounds m found cs h)

-- in any other fewer wait
waiting_few : (found : List ℕ) (cs : List Clause) → length (waiting found cs) ≤ length cs
unfolding waiting
waiting_few found [] = omega arith
waiting_few found (c ∷ cs) = go (has_all found c.premises) (waiting_few found cs)
  where
    go : (b : Bool) → length (waiting found cs) ≤ length cs → length (when (not b) (c ∷ []) ++ waiting found cs) ≤ suc (length cs)
    go true h = omega arith
    go false h = omega arith

turn : (found : List ℕ) (cs : List Clause) → Idle found cs ⊎ (length (waiting found cs) < length cs)
unfolding waiting
turn found [] = inl (λ c m. absurd (no_element m))
turn found (c ∷ cs) = go (has_all found c.premises) refl (turn found cs) (waiting_few found cs)
  where
    idle : has_all found c.premises ≡ false → Idle found cs → Idle found (c ∷ cs)
    idle e h d here = e
    idle e h d (there m) = h d m

    go : (b : Bool) → has_all found c.premises ≡ b → Idle found cs ⊎ (length (waiting found cs) < length cs)
        → length (waiting found cs) ≤ length cs → Idle found (c ∷ cs) ⊎ (length (when (not b) (c ∷ []) ++ waiting found cs) < suc (length cs))
    go true e h k = inr (omega arith)
    go false e (inl h) k = inl (idle e h)
    go false e (inr h) k = inr (omega arith)

-- rounds keep what is found
rounds-keep : (m : ℕ) (found : List ℕ) (cs : List Clause) (x : ℕ) → Mem x found → Mem x (rounds m found cs)
unfolding rounds
rounds-keep zero found cs x h = h
rounds-keep (suc m) found cs x h = rounds-keep m (concluded found cs ++ found) (waiting found cs) x (mem_right (concluded found cs) h)

-- after enough rounds every clause is kept
rounds-kept : (m : ℕ) (found : List ℕ) (cs : List Clause) → length cs ≤ m → Kept (λ x. Mem x (rounds m found cs)) cs
unfolding rounds
rounds-kept zero found (d ∷ cs) h c n a = absurd (omega arith)
rounds-kept zero found [] h c n a = absurd (no_element n)
rounds-kept (suc m) found cs h c n a = elim (turn found cs) [
  | inl i ↦
      let e = idle_rounds (suc m) found cs i in
      let b = all_in found c.premises (all_map (λ x k. subst (Mem x) e k) c.premises a) in
      no_bool (sym b ∙ i c n)
  | inr l ↦ elim (either found cs c n) [
    | inl k ↦ rounds-keep m (concluded found cs ++ found) (waiting found cs) c.conclusion (mem_left found k)
    | inr k ↦ rounds-kept m (concluded found cs ++ found) (waiting found cs) (omega arith) c k a
  ]
]

-- nothing is found that does not follow
rounds_least : (P : ℕ → Type 0) (m : ℕ) (found : List ℕ) (cs : List Clause) → ((x : ℕ) → Mem x found → P x) → Kept P cs
    → (x : ℕ) → Mem x (rounds m found cs) → P x
unfolding rounds
rounds_least P zero found cs h k x m = h x m
rounds_least P (suc m) found cs h k x n =
    rounds_least P m (concluded found cs ++ found) (waiting found cs)
    (λ y u. elim (mem_either (concluded found cs) found u) [ inl v ↦ concluded-out P found cs h k y v | inr v ↦ h y v ])
    (λ c u. k c (waiting-out found cs c u)) x n

-- the closure is kept by its clauses, and has nothing that every kept set lacks
pub closure-kept : (cs : List Clause) → Kept (λ x. Mem x (closure cs)) cs
closure-kept cs = rounds-kept (length cs) [] cs (omega arith)

pub closure_least : (P : ℕ → Type 0) (cs : List Clause) → Kept P cs → (x : ℕ) → Mem x (closure cs) → P x
closure_least P cs k = rounds_least P (length cs) [] cs (λ x m. absurd (no_element m)) k
