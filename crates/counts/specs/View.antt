-- The work row as a chart, and how many of its counts are not 0. Assumes nothing.
use Rattle.std.specs.Prelude.{ℕ, zero, suc, Bool, ◌&&◌, List, [], ◌∷◌, eqb, ltb, get_or}
use Rattle.grammar.specs.Basics.{choose}
use Rattle.tree_laws.specs.Chart.{Chart}
use Rattle.counts.specs.Counts.{item_cell, whole_cell}

-- how many counts are not 0: they bound the depth of the one tree
unfoldable pub nonzeros : List ℕ → ℕ
nonzeros [] = 0
nonzeros (zero ∷ l) = nonzeros l
nonzeros (suc x ∷ l) = suc (nonzeros l)

-- one of Q states and two of m places: they have a cell
abbrev pub within : ℕ → ℕ → ℕ → ℕ → ℕ → Bool
within Q m p i j = ltb p Q && (ltb i m && ltb j m)

module _ (Q m : ℕ) (ends : ℕ → Bool) (home : ℕ → ℕ) where
  -- an end derives the empty row only; other places, and nonterminals at their homes, have their cells
  unfoldable pub view_of : List ℕ → Chart
  view_of row = record {
    item = λ p i j. choose (ends p) (choose (eqb i j) 1 0) (choose (within Q m p i j) (get_or row (item_cell m p i j) 0) 0);
    whole = λ b i j. choose (within Q m (home b) i j) (get_or row (whole_cell m (home b) i j) 0) 0;
  }
