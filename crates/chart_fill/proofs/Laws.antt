-- From span to span. Assumes nothing.
use Prim.Native.Nat.{ℕ, suc, ◌-◌, ◌*◌, ◌/◌, ◌≤◌, ◌<◌}
use mathlib.Core.Path.{◌≡◌, sym, ap, ◌∙◌}
use mathlib.Core.List.{List, []}
use mathlib.Core.Logic.{inl, inr}
use native.Mathlib.Omega.{arith}
use native.Mathlib.Decide.{ℕ_discrete}
use lib.ListN.{length, get_or, set, replicate, get_or-replicate}
use lib.Seq.{get_or-set_other}
use Rattle.grammar.specs.Limits.{limits}
use Rattle.grammar.specs.Grammar.{Grammar}
use Rattle.tree_laws.specs.Chart.{Places}
use Rattle.tree_laws.proofs.Looks.{look-begins, look-ends, column_begins}
use Rattle.chart.specs.Rows.{block, Covered, Clear}
use Rattle.chart.specs.Filling.{Sheet, chart_of, Working, Filled, Begun, Complete}
use Rattle.chart.proofs.Reading.{either, end-code}

-- where the ends are marked, no end is without a mark
ends-marked : {G : Grammar} {P : Places limits G} {Q : ℕ} {ahead lead home : List ℕ} (S : Sheet G P Q ahead lead home) (w marks : List ℕ)
    → ((p : ℕ) → p < Q → get_or ahead p 0 ≡ 0 → get_or marks p 0 ≡ 1) → (p : ℕ) → P.rest p ≡ [] → p < Q → get_or marks p 0 ≡ 0 → ⊥
ends-marked {G} {P} {Q} {ahead} {lead} {home} S w marks M p e h z = omega (arith, M p h (S.code p h ∙ end-code G P Q ahead lead home w S p e))

module _ {G : Grammar} {P : Places limits G} {Q : ℕ} {ahead lead home : List ℕ} (S : Sheet G P Q ahead lead home) {w : List ℕ} where
  -- a span begins with the flags that are the marks
  pub span_start : {row active : List ℕ} {i j : ℕ} → i ≤ j → Filled G P Q home w row active (suc i) j → Working G P Q home w row active active Q i j
  span_start {row} {active} {i} {j} h F = record {
    counted = F.counted;
    looking = look-begins limits G w P Q (chart_of G P Q home w row) (λ p. get_or active p 0) i j (λ p x α e. (S.range p x α e).1) (either G P Q ahead lead home w S) h F.past F.column;
  }

  -- flags that are not set are passed
  pub span_down : {row active flags : List ℕ} {q i j : ℕ} (r : ℕ) → Clear Q flags r → Working G P Q home w row active flags q i j → Working G P Q home w row active flags r i j
  span_down r c W = record {
    counted = W.counted;
    looking = record { past = W.looking.past; column = W.looking.column; quiet = W.looking.quiet; high = c };
  }

  -- it ends where no flag is left
  pub span_end : {row active flags : List ℕ} {q i j : ℕ} → q ≤ 3 → Working G P Q home w row active flags q i j → Filled G P Q home w row active i j
  span_end {row} {active} {flags} {q} {i} {j} h W = record {
    counted = W.counted;
    past = look-ends limits G w P Q (chart_of G P Q home w row) (λ p. get_or active p 0) (λ p. get_or flags p 0) q i j S.range h W.looking;
    column = W.looking.column;
  }

  module _ (marks : List ℕ) (M : (p : ℕ) → p < Q → get_or ahead p 0 ≡ 0 → get_or marks p 0 ≡ 1) where
    pub fill_start : {row : List ℕ} → Begun G P Q home w row → Filled G P Q home w row marks 1 0
    fill_start B = record {
      counted = B.counted;
      past = record {
        settled = λ p x k l α e g n d. elim d [ inl a ↦ absurd (omega arith) | inr a ↦ absurd (omega arith) ];
        fresh = λ p x k l α e h. B.empty p x k l α e;
      };
      column = record { idle = λ p x k α e z. B.empty p x k 0 α e; ends = ends-marked S w marks M };
    }

    pub fill_more : {row active : List ℕ} {j : ℕ} → Filled G P Q home w row active 0 j → Filled G P Q home w row marks (suc (suc j)) (suc j)
    fill_more {row} {j = j} F =
        let y = column_begins limits G w P Q (chart_of G P Q home w row) (λ p. get_or marks p 0) j (ends-marked S w marks M) F.past in
        record { counted = F.counted; past = y.0; column = y.1 }

  pub fill_end : {row active : List ℕ} {j : ℕ} → length w < j → Filled G P Q home w row active (suc j) j → Complete G P Q home w row
  fill_end h F = record {
    counted = F.counted;
    settled = λ p x k l α e g n. F.past.settled p x k l α e g n (inl (omega arith));
  }

-- none is set up to q, and none from q on
pub clear_from : {Q : ℕ} (flags : List ℕ) (r q : ℕ) → ((h : ℕ) → r ≤ h → h < q → get_or flags h 0 ≡ 0) → Clear Q flags q → Clear Q flags r
clear_from flags r q c d h a b = elim (ℕ_discrete (q - h) 0) [ yes f ↦ d h (omega arith) b | no f ↦ c h a (omega arith) ]

module _ {Q : ℕ} {flags blocks : List ℕ} (b : ℕ) (C : Covered Q flags blocks) where
  -- a block whose byte is 0 is passed over
  pub block-passed : (p : ℕ) → b ≡ (p - 1) / block → get_or blocks b 0 ≡ 0 → Clear Q flags p → Clear Q flags (b * block)
  block-passed p e z d h a g = elim (ℕ_discrete (p - h) 0) [
    | yes f ↦ d h (omega arith) g
    | no f ↦ C.unset h g (let k : h / block ≡ b = omega arith in ap (λ i. get_or blocks i 0) k ∙ z)
  ]

  -- the byte of a block is cleared where none of its flags is left
  pub block-cleared : Clear Q flags (b * block) → Covered Q flags (set blocks b 0)
  block-cleared d = record {
    unset = λ h g z. elim (ℕ_discrete (h / block) b) [
      | yes f ↦ d h (omega arith) g
      | no f ↦ C.unset h g (sym (get_or-set_other blocks b (h / block) 0 0 f) ∙ z)
    ];
  }

-- at first every byte is 1
pub all_covered : (Q n : ℕ) (flags : List ℕ) → Q ≤ block * n → Covered Q flags (replicate n 1)
all_covered Q n flags l = record { unset = λ h g z. absurd (omega (arith, z, get_or-replicate {A = ℕ} n (h / block) 1 0 (omega arith))) }
