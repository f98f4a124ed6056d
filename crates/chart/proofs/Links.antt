-- The states before a nonterminal, followed from the highest down, are all of them. Assumes nothing.
use Prim.Native.Nat.{ℕ, ◌+◌, ◌-◌, ◌≤◌, ◌<◌}
use mathlib.Core.Path.{◌≡◌, refl, sym, ap, ◌∙◌}
use mathlib.Core.List.{List}
use native.Mathlib.Omega.{arith}
use native.Mathlib.Decide.{ℕ_discrete}
use lib.ListN.{length, get_or, set, length-set}
use lib.Seq.{get_or-set_same, get_or-set_other}
use Rattle.chart.specs.Rows.{Linked, Mentioning, Flagged}

module _ {Q : ℕ} {ahead next head : List ℕ} (L : Linked Q ahead next head) where
  pub mention_start : (c : ℕ) (flags : List ℕ) (top : ℕ) → top ≡ get_or head c 0 → Mentioning ahead Q c top top flags flags
  mention_start c flags top e = record {
    room = omega (arith, L.heads c);
    below = omega arith;
    same = λ h. ap (λ z. get_or ahead z 0) e ∙ L.head-same c (omega arith);
    all = λ s h g q. absurd (omega (arith, L.head-most s c g q));
    kept = λ h q. q;
    above = λ h q. refl;
    size = refl;
  }

  pub mention_turn : {c : ℕ} {flags flags' : List ℕ} {top p : ℕ} (n : ℕ) → Mentioning ahead Q c top p flags flags' → Q ≤ length flags → 1 ≤ p → n ≡ get_or next p 0
      → Mentioning ahead Q c top n flags (set flags' (p + 1) 1)
  mention_turn {flags' = flags'} {p = p} n M q h e =
      let inside : p < Q = omega (arith, M.room) in
      let less = L.nexts p h inside in
      let fits : p + 1 < length flags' = omega (arith, M.room, M.size) in
      record {
        room = omega (arith, M.room);
        below = omega (arith, M.below);
        same = λ g. ap (λ z. get_or ahead z 0) e ∙ L.next-same p inside (omega arith) ∙ M.same h;
        all = λ s g l q'. elim (ℕ_discrete s p) [
          | yes f ↦ ap (λ z. get_or (set flags' (p + 1) 1) (z + 1) 0) f ∙ get_or-set_same flags' (p + 1) 1 0 fits
          | no f ↦ elim (ℕ_discrete (s - p) 0) [
            | no f' ↦ get_or-set_other flags' (p + 1) (s + 1) 1 0 (λ z. f (omega arith)) ∙ M.all s (omega arith) l q'
            | yes f' ↦ absurd (omega (arith, L.next-most s p (omega arith) inside (omega (arith, M.same h)) (q' ∙ sym (M.same h))))
          ]
        ];
        kept = λ k q. elim (ℕ_discrete k (p + 1)) [
          | yes f ↦ absurd (omega (arith, q, ap (λ z. get_or (set flags' (p + 1) 1) z 0) f, get_or-set_same flags' (p + 1) 1 0 fits))
          | no f ↦ M.kept k (sym (get_or-set_other flags' (p + 1) k 1 0 f) ∙ q)
        ];
        above = λ k q. get_or-set_other flags' (p + 1) k 1 0 (λ z. omega (arith, M.below)) ∙ M.above k q;
        size = length-set flags' (p + 1) 1 ∙ M.size;
      }

  pub mention_end : {c : ℕ} {flags flags' : List ℕ} {top p : ℕ} → Mentioning ahead Q c top p flags flags' → p < 1 → Flagged ahead Q c top flags flags'
  mention_end M h = record {
    all = λ s l q. elim (ℕ_discrete s 0) [
      | yes f ↦ absurd (omega (arith, L.front, q, ap (λ z. get_or ahead z 0) f))
      | no f ↦ M.all s (omega arith) l q
    ];
    kept = M.kept;
    above = M.above;
  }
