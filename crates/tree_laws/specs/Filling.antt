-- Filling a chart span by span: a rise of one count, the spans that are done, the places of a column that have counts, and the places
-- that are to be looked at. Assumes nothing.
use Rattle.std.specs.Prelude.{ℕ, suc, ◌≤◌, ◌<◌, ◌≡◌, ◌⊎◌, Bool, ◌&&◌, List, [], ◌∷◌, eqb, length}
use Rattle.grammar.specs.Basics.{choose}
use Rattle.grammar.specs.Limits.{Limits}
use Rattle.grammar.specs.Grammar.{Grammar}
use Rattle.tree_laws.specs.Chart.{Places, Chart, Settled}

-- the cell (p, i, j) is the cell (q, k, l)
abbrev pub same_cell : ℕ → ℕ → ℕ → ℕ → ℕ → ℕ → Bool
same_cell p i j q k l = eqb q p && (eqb k i && eqb l j)

-- a chart in which one count, of a place or of a nonterminal, is another
unfoldable pub item_raised : Chart → ℕ → ℕ → ℕ → ℕ → Chart
item_raised C p i j v = record { item = λ q k l. choose (same_cell p i j q k l) v (C.item q k l); whole = C.whole }

unfoldable pub whole_raised : Chart → ℕ → ℕ → ℕ → ℕ → Chart
whole_raised C b i j v = record { item = C.item; whole = λ a k l. choose (same_cell b i j a k l) v (C.whole a k l) }

-- the span from k to l is done, where all spans that end before j are, and those that end there and begin at i or later
abbrev pub Done : ℕ → ℕ → ℕ → ℕ → Type 0
Done k l i j = (l < j) ⊎ ((l ≡ j) × (i ≤ k))

module _ (L : Limits) (G : Grammar) (w : List ℕ) (P : Places L G) (Q : ℕ) where
  -- the spans that are done are settled, and nothing is counted in columns past j
  pub record Past (C : Chart) (i j : ℕ) : Type 0 where
    pub settled : (p x k l : ℕ) (α : List ℕ) → P.rest p ≡ x ∷ α → k ≤ l → l ≤ length w → Done k l i j → Settled L G w C x p k l
    pub fresh : (p x k l : ℕ) (α : List ℕ) → P.rest p ≡ x ∷ α → j < l → C.item p k l ≡ 0

  -- of a place whose mark is 0 nothing is counted in column j; ends have a mark
  pub record Column (C : Chart) (A : ℕ → ℕ) (j : ℕ) : Type 0 where
    pub idle : (p x k : ℕ) (α : List ℕ) → P.rest p ≡ x ∷ α → A p ≡ 0 → C.item p k j ≡ 0
    pub ends : (p : ℕ) → P.rest p ≡ [] → p < Q → A p ≡ 0 → ⊥

  -- the span from i to j is at work: a place is settled unless the flag just past it is set, and no flag is set from q on
  pub record Looking (C : Chart) (A F : ℕ → ℕ) (q i j : ℕ) : Type 0 where
    pub past : Past C (suc i) j
    pub column : Column C A j
    pub quiet : (p x : ℕ) (α : List ℕ) → P.rest p ≡ x ∷ α → F (suc p) ≡ 0 → Settled L G w C x p i j
    pub high : (h : ℕ) → q ≤ h → h < Q → F h ≡ 0
