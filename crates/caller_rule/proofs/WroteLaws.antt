-- Rows whose entries are written one after the other, or block by block. Assumes nothing.
use Prim.Native.Nat.{ℕ, zero, suc, ◌+◌, ◌*◌, ◌≤◌, ◌<◌}
use mathlib.Core.Path.{◌≡◌, refl, sym, ap, subst, ◌∙◌}
use mathlib.Core.Logic.{inl, inr}
use mathlib.Core.List.{List, [], ◌∷◌}
use native.Mathlib.Omega.{arith}
use native.Mathlib.Decide.{ℕ_discrete}
use native.Mathlib.Nat.{mul-le-mul_right, suc-mul}
use native.Mathlib.Numerals.{add-one}
use lib.ListN.{length, get_or, set, length-set}
use lib.Seq.{get_or-set_same, get_or-set_other}
use Rattle.caller_rule.specs.RuleRows.{Wrote, WroteBlocks}

-- no entry is written
pub wrote_none : (old : List ℕ) (at : ℕ) (f : ℕ → ℕ) → Wrote old old at 0 f
wrote_none old at f = record { size = refl; inside = λ r h. absurd (omega arith); outside = λ k h. refl }

-- one entry more
pub wrote-next : (old new : List ℕ) (at r v : ℕ) (f : ℕ → ℕ) → Wrote old new at r f → at + r < length old → v ≡ f r → Wrote old (set new (at + r) v) at (r + 1) f
wrote-next old new at r v f w h e = record {
  size = length-set new (at + r) v ∙ w.size;
  inside = λ k l. elim (ℕ_discrete k r) [
    | yes q ↦ subst (λ k. get_or (set new (at + r) v) (at + k) 0 ≡ f k) (sym q) (get_or-set_same new (at + r) v 0 (let z = w.size in omega (arith, z, h)) ∙ e)
    | no n ↦ get_or-set_other new (at + r) (at + k) v 0 (λ q. omega (arith, q, n)) ∙ w.inside k (omega (arith, l, n))
  ];
  outside = λ k l. get_or-set_other new (at + r) k v 0 (λ q. elim l [ inl a ↦ omega (arith, a, q) | inr a ↦ omega (arith, a, q) ]) ∙ w.outside k (elim l [ inl a ↦ inl a | inr a ↦ inr (omega (arith, a)) ]);
}

-- past a row's end
pub past_end : (l : List ℕ) (d : ℕ) → length l ≤ d → get_or l d 0 ≡ 0
past_end [] d h = refl
past_end (x ∷ l) zero h = absurd (omega arith)
past_end (x ∷ l) (suc d) h = past_end l d (omega arith)

-- ---- blocks

-- one time more
pub next_mul : (n w : ℕ) → (n + 1) * w ≡ n * w + w
next_mul n w = ap (λ (k : ℕ). k * w) (add-one n) ∙ suc-mul n w

-- a block ends where a later one begins, or before
pub less_mul : (d n w : ℕ) → d < n → d * w + w ≤ n * w
less_mul d n w h = omega (arith, mul-le-mul_right w h, suc-mul d w)

-- one block more
pub blocks_next : (old mid new : List ℕ) (at p w n : ℕ) (f : ℕ → ℕ → ℕ) (g : ℕ → ℕ) → WroteBlocks old mid at w n f → Wrote mid new p w g
    → p ≡ at + n * w → ((r : ℕ) → g r ≡ f n r) → WroteBlocks old new at w (n + 1) f
blocks_next old mid new at p w n f g a b e s = record {
  size = b.size ∙ a.size;
  inside = λ d r h k. elim (ℕ_discrete d n) [
    | yes z ↦ subst (λ d. get_or new (at + d * w + r) 0 ≡ f d r) (sym z) (ap (λ (p : ℕ). get_or new (p + r) 0) (sym e) ∙ b.inside r k ∙ s r)
    | no z ↦
        let q = less_mul d n w (omega (arith, h, z)) in
        b.outside (at + d * w + r) (inl (omega (arith, q, e, k))) ∙ a.inside d r (omega (arith, h, z)) k
  ];
  outside = λ k h.
      let q = next_mul n w in
      b.outside k (elim h [ inl i ↦ inl (omega (arith, i, e)) | inr i ↦ inr (omega (arith, i, q, e)) ])
      ∙ a.outside k (elim h [ inl i ↦ inl i | inr i ↦ inr (omega (arith, i, q)) ]);
}
