-- Lists that rise by a number, with bounds, and such lists one after the other. Assumes nothing.
use Prim.Native.Nat.{ℕ, ◌+◌, ◌≤◌, ◌<◌}
use mathlib.Core.Path.{ap}
use mathlib.Core.List.{List, [], ◌∷◌, ◌++◌, map}
use mathlib.Core.Logic.{inl, inr}
use native.Mathlib.Omega.{arith}
use Rattle.grammar.specs.Basics.{Mem, each}
use Rattle.triple_laws.proofs.Members.{no_element, first_or, mem_either, of_map}
use Rattle.triple_laws.proofs.Pairs.{Rising, pairs-none, pairs-more, pairs_append}
use Rattle.moves.specs.Tables.{Ascends}
use Rattle.moves.proofs.Places.{ascends_mem}

-- the list rises by P, from a on and below b
pub record Window {A : Type 0} (P : A → ℕ) (a b : ℕ) (l : List A) : Type 0 where
  pub rises : Rising P l
  pub within : (s : A) → Mem s l → (a ≤ P s) × (P s < b)

pub window_none : {A : Type 0} (P : A → ℕ) (a b : ℕ) → Window P a b []
window_none P a b = record { rises = pairs-none; within = λ s m. absurd (no_element m) }

-- one after the other
pub window_append : {A : Type 0} {P : A → ℕ} {a b c : ℕ} (l m : List A) → a ≤ b → b ≤ c → Window P a b l → Window P b c m
    → Window P a c (l ++ m)
window_append {A} {P} {a} {b} {c} l m h k u v = record {
  rises = pairs_append l m u.rises v.rises (λ s t i j. omega (arith, (u.within s i).1, (v.within t j).0));
  within = λ s i. elim (mem_either l m i) [
    | inl i ↦ ((u.within s i).0, omega (arith, (u.within s i).1))
    | inr i ↦ (omega (arith, (v.within s i).0), (v.within s i).1)
  ];
}

-- one more before
pub window_more : {A : Type 0} {P : A → ℕ} {a b c : ℕ} (s : A) (l : List A) → a ≤ P s → P s < b → Window P b c l → b ≤ c → Window P a c (s ∷ l)
window_more {A} {P} {a} {b} {c} s l h k w n = record {
  rises = pairs-more {a = s} {l = l} (λ t m. omega (arith, (w.within t m).0)) w.rises;
  within = λ t m. elim (first_or m) [
    | inl e ↦ let z = ap P e in (omega arith, omega arith)
    | inr m ↦ (omega (arith, (w.within t m).0), (w.within t m).1)
  ];
}

-- what ascending numbers give
pub window_map : {A : Type 0} (P : A → ℕ) (g : ℕ → A) (lo hi a b : ℕ) (l : List ℕ) → Ascends a b l
    → ((u : ℕ) → a ≤ u → u < b → (lo ≤ P (g u)) × (P (g u) < hi))
    → ((u v : ℕ) → a ≤ u → u < v → v < b → P (g u) < P (g v)) → Window P lo hi (map g l)
window_map {A} P g lo hi a b l s h k = record {
  rises = rise a l s (λ u v i j m. k u v i j m);
  within = λ t m. let r = (of_map l g).0 m in let i = ascends_mem a b l r.0 s r.1 in let z = h r.0 i.0 i.1 in let e = ap P r.2 in
      (omega (arith, z.0), omega (arith, z.1));
}
  where
    rise : (a : ℕ) (l : List ℕ) → Ascends a b l → ((u v : ℕ) → a ≤ u → u < v → v < b → P (g u) < P (g v)) → Rising P (map g l)
    rise a [] s k = pairs-none
    rise a (x ∷ l) s k = pairs-more {a = g x} {l = map g l}
        (λ t m. let r = (of_map l g).0 m in let i = ascends_mem (x + 1) b l r.0 s.2 r.1 in let e = ap P r.2 in
        omega (arith, k x r.0 s.0 (omega (arith, i.0)) i.1))
        (rise (x + 1) l s.2 (λ u v i j m. k u v (omega (arith, s.0)) j m))

-- lists that ascending numbers give, each within bounds that follow one another
pub window_each : {A : Type 0} (P : A → ℕ) (f : ℕ → List A) (X : ℕ → ℕ) (a b : ℕ) (l : List ℕ) → Ascends a b l
    → ((u v : ℕ) → u ≤ v → X u ≤ X v) → ((u : ℕ) → a ≤ u → u < b → Window P (X u) (X (u + 1)) (f u)) → a ≤ b → Window P (X a) (X b) (each l f)
unfolding each
window_each P f X a b [] s up w h = window_none P (X a) (X b)
window_each P f X a b (x ∷ l) s up w h =
    window_append (f x) (each l f) (up a (x + 1) (omega (arith, s.0))) (up (x + 1) b (omega (arith, s.1)))
    (let y = w x s.0 s.1 in record { rises = y.rises; within = λ t m. (omega (arith, up a x s.0, (y.within t m).0), (y.within t m).1) })
    (window_each P f X (x + 1) b l s.2 up (λ u i j. w u (omega (arith, s.0)) j) (omega (arith, s.1)))
