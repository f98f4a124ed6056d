-- A withdrawal moves later rules down by one number, and leaves the earlier ones. Assumes nothing.
use Prim.Native.Nat.{ℕ, zero, suc, ◌+◌, ◌-◌, ◌≤◌, ◌<◌}
use mathlib.Core.Path.{◌≡◌, refl, ap, sym, subst, ◌∙◌}
use mathlib.Core.List.{List, [], ◌∷◌}
use mathlib.Core.Logic.{◌⊎◌, inl, inr}
use native.Mathlib.Omega.{arith}
use lib.Dec.{leb}
use lib.ListN.{length, get_or}
use borrow.Author.Tests.{leb-true}
use Rattle.grammar.specs.Basics.{Mem, here, there, Distinct, none, more}
use Rattle.grammar.specs.Limits.{Limits}
use Rattle.grammar.specs.Grammar.{Rule, state_count}
use Rattle.grammar.specs.Refusal.{done, not_present}
use Rattle.grammar.proofs.Answers.{and_both, unless_done, done_inj}
use Rattle.grammar.proofs.Plain.{mem_cases}
use Rattle.drafts.specs.Draft.{Draft, withdraw, with_rules, without, is_present, taken}

-- ---- the rules without one

pub without-below : (i k : ℕ) (rs : List Rule) (r : Rule) → k < i → get_or (without i rs) k r ≡ get_or rs k r
unfolding without
without-below i k [] r h = refl
without-below zero k (s ∷ rs) r h = absurd (omega (arith, h))
without-below (suc i) zero (s ∷ rs) r h = refl
without-below (suc i) (suc k) (s ∷ rs) r h = without-below i k rs r (omega (arith, h))

pub without-above : (i k : ℕ) (rs : List Rule) (r : Rule) → i ≤ k → get_or (without i rs) k r ≡ get_or rs (suc k) r
unfolding without
without-above i k [] r h = refl
without-above zero k (s ∷ rs) r h = refl
without-above (suc i) zero (s ∷ rs) r h = absurd (omega (arith, h))
without-above (suc i) (suc k) (s ∷ rs) r h = without-above i k rs r (omega (arith, h))

pub without-length : (i : ℕ) (rs : List Rule) → i < length rs → length (without i rs) + 1 ≡ length rs
unfolding without
without-length i [] h = absurd (omega (arith, h))
without-length zero (s ∷ rs) h = omega arith
without-length (suc i) (s ∷ rs) h = let z = without-length i rs (omega (arith, h)) in omega (arith, z)

pub without-few : (i : ℕ) (rs : List Rule) → length (without i rs) ≤ length rs
unfolding without
without-few i [] = omega arith
without-few zero (s ∷ rs) = omega arith
without-few (suc i) (s ∷ rs) = let z = without-few i rs in omega (arith, z)

pub without-states : (i : ℕ) (rs : List Rule) → state_count (without i rs) ≤ state_count rs
unfolding without state_count
without-states i [] = omega arith
without-states zero (s ∷ rs) = omega arith
without-states (suc i) (s ∷ rs) = let z = without-states i rs in omega (arith, z)

pub without_in : (i : ℕ) (rs : List Rule) (r : Rule) → Mem r (without i rs) → Mem r rs
unfolding without
without_in i [] r m = m
without_in zero (s ∷ rs) r m = there m
without_in (suc i) (s ∷ rs) r m = go (mem_cases m) (λ m. without_in i rs r m)
  where
    go : (s ≡ r) ⊎ Mem r (without i rs) → (Mem r (without i rs) → Mem r rs) → Mem r (s ∷ rs)
    go (inl e) again = subst (λ (s : Rule). Mem r (s ∷ rs)) (sym e) here
    go (inr m) again = there (again m)

pub without_distinct : (i : ℕ) (rs : List Rule) → Distinct rs → Distinct (without i rs)
unfolding without
without_distinct i [] none = none
without_distinct zero (s ∷ rs) (more new d) = d
without_distinct (suc i) (s ∷ rs) (more new d) = more (λ m. new (without_in i rs s m)) (without_distinct i rs d)

-- ---- the step

-- what a withdrawal of rule i leaves: rules before it as they were, later ones down by one number, numbers being from 1
pub record Withdrawn (i : ℕ) (d e : Draft) : Type 0 where
  pub below : (j : ℕ) (r : Rule) → 1 ≤ j → j < i → get_or e.rules (j - 1) r ≡ get_or d.rules (j - 1) r
  pub above : (j : ℕ) (r : Rule) → i ≤ j → get_or e.rules (j - 1) r ≡ get_or d.rules j r
  pub count : length e.rules + 1 ≡ length d.rules
  pub marks : e.marks ≡ d.marks

pub withdrawn : (L : Limits) (d e : Draft) (i : ℕ) → taken L d (withdraw i) ≡ done e → Withdrawn i d e
unfolding taken
withdrawn L d e i q =
    let u = unless_done not_present i (is_present d i) (done (with_rules d (without (i - 1) d.rules))) e q in
    let g : with_rules d (without (i - 1) d.rules) ≡ e = done_inj u.1 in
    let r : e.rules ≡ without (i - 1) d.rules = sym (ap (λ (d : Draft). d.rules) g) in
    let b = and_both (leb 1 i) (leb i (length d.rules)) u.0 in
    let l : 1 ≤ i = leb-true 1 i b.0 in
    let h : i ≤ length d.rules = leb-true i (length d.rules) b.1 in
    let n : length (without (i - 1) d.rules) + 1 ≡ length d.rules = without-length (i - 1) d.rules (omega (arith, l, h)) in
    record {
      below = λ j s o b. ap (λ (l : List Rule). get_or l (j - 1) s) r ∙ without-below (i - 1) (j - 1) d.rules s (omega (arith, o, b));
      above = λ j s o.
          let z : suc (j - 1) ≡ j = omega (arith, l, o) in
          ap (λ (l : List Rule). get_or l (j - 1) s) r ∙ without-above (i - 1) (j - 1) d.rules s (omega (arith, o)) ∙ ap (λ (k : ℕ). get_or d.rules k s) z;
      count = ap (λ (l : List Rule). length l + 1) r ∙ n;
      marks = sym (ap (λ (d : Draft). d.marks) g);
    }
