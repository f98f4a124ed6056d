-- The diagonal of a plane is raised, place by place; other entries stay. Assumes nothing.
use Prim.Native.Nat.{ℕ, ◌+◌, ◌<◌}
use mathlib.Core.Path.{◌≡◌, refl, sym, ap, ◌∙◌}
use mathlib.Core.List.{List}
use native.Mathlib.Omega.{arith}
use native.Mathlib.Decide.{ℕ_discrete}
use lib.ListN.{length, get_or, set, length-set}
use lib.Seq.{get_or-set_same, get_or-set_other}
use Rattle.tree_laws.specs.Chart.{cap}
use Rattle.tree_laws.proofs.Cap.{cap-most}
use Rattle.counts.specs.Counts.{item_cell}
use Rattle.counts.proofs.Cells.{cells_apart}
use Rattle.chart_start.specs.Sown.{Diagonal}

-- the diagonal, one place more
pub diagonal_start : (m h : ℕ) (row : List ℕ) → Diagonal m h 0 row row
diagonal_start m h row = record { on = λ i l. absurd (omega arith); off = λ k n. refl; small = λ s. s; size = refl }

pub diagonal_more : (m h n : ℕ) (row row' : List ℕ) (k : ℕ) → n < m → k ≡ item_cell m h n n → k < length row' → Diagonal m h n row row'
    → Diagonal m h (n + 1) row (set row' k (cap (get_or row' k 0 + 1)))
diagonal_more m h n row row' k l e f d = record {
  on = λ i g. elim (ℕ_discrete i n) [
    | yes q ↦ ap (λ z. get_or new (item_cell m h z z) 0) q ∙ ap (λ z. get_or new z 0) (sym e) ∙ get_or-set_same row' k (cap (get_or row' k 0 + 1)) 0 f
        ∙ ap (λ z. cap (z + 1)) (d.off k (λ j o y. omega (arith, (cells_apart m h n n h j j l l (omega arith) (omega arith) (sym e ∙ y)).1)) ∙ ap (λ z. get_or row z 0) (e ∙ sym (ap (λ z. item_cell m h z z) q)))
    | no q ↦ get_or-set_other row' k (item_cell m h i i) (cap (get_or row' k 0 + 1)) 0 (λ y. q (cells_apart m h i i h n n (omega arith) (omega arith) l l (y ∙ e)).1) ∙ d.on i (omega arith)
  ];
  off = λ j g. get_or-set_other row' k j (cap (get_or row' k 0 + 1)) 0 (λ y. g n (omega arith) (y ∙ e)) ∙ d.off j (λ i o y. g i (omega arith) y);
  small = λ s j. elim (ℕ_discrete j k) [
    | yes q ↦ omega (arith, ap (λ z. get_or new z 0) q, get_or-set_same row' k (cap (get_or row' k 0 + 1)) 0 f, cap-most (get_or row' k 0 + 1))
    | no q ↦ omega (arith, get_or-set_other row' k j (cap (get_or row' k 0 + 1)) 0 q, d.small s j)
  ];
  size = length-set row' k (cap (get_or row' k 0 + 1)) ∙ d.size;
}
  where
    new : List ℕ
    new = set row' k (cap (get_or row' k 0 + 1))

-- a plane without the diagonal's, or a place off it, is as it was
pub diagonal_else : (m h : ℕ) (row row' : List ℕ) → Diagonal m h m row row' → (z k n : ℕ) → k < m → n < m → (z ≡ h → k ≡ n → ⊥) → get_or row' (item_cell m z k n) 0 ≡ get_or row (item_cell m z k n) 0
diagonal_else m h row row' d z k n hk hn q = d.off (item_cell m z k n) (λ i o y. let x = cells_apart m z k n h i i hk hn o o y in q x.0 (x.1 ∙ sym x.2))
