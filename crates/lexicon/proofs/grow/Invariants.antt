use Rattle.std.proofs.Common.{ℕ, ◌≡◌, ◌≤◌, ◌<◌, false, List, length}
use Rattle.text.specs.Names.{same_name}
use Rattle.lexicon.specs.Tree.{name_of, Grown}
use Rattle.lexicon.proofs.grow.Given as goal

-- the first names are apart
abbrev pub Separate : (ℕ → List ℕ) → ℕ → Type 0
Separate name k = (i j : ℕ) → i < j → j < k → same_name (name j) (name i) ≡ false

abbrev pub invariant-loop-k : goal.invariant-loop-k
invariant-loop-k l = record {
  inside : l.k ≤ length l.starts;
  grown : Grown (name_of l.text l.starts l.lengths) l.links l.k;
  apart : Separate (name_of l.text l.starts l.lengths) l.k;
}
