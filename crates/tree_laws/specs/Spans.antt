-- Derivations between two places of a row: from the symbols α the forest f, a row of trees, derives the terminals from place i to
-- before place j; and counts of such forests up to 2 without counting. Assumes nothing.
use Rattle.std.specs.Prelude.{ℕ, zero, suc, ◌≤◌, ◌<◌, ◌≡◌, List, [], ◌∷◌, length, get_or}
use Rattle.grammar.specs.Limits.{Limits}
use Rattle.grammar.specs.Grammar.{Terminal, Grammar, rule}
use Rattle.grammar.specs.Tree.{Tree, Trees, AppliesRuleOf}

-- a tree whose root applies rule r, its children f, then the trees g
abbrev pub tree : ℕ → Trees → Trees → Trees
tree r f g = Trees.child (Tree.node r f) g

-- the symbols α, the forest, from place i to place j of the row w
pub data Spans (L : Limits) (G : Grammar) (w : List ℕ) : List ℕ → Trees → ℕ → ℕ → Type 0 where
  end : {i : ℕ} → i ≤ length w → Spans L G w [] Trees.none i i
  leaf : {a : ℕ} {α : List ℕ} {f : Trees} {i j : ℕ} → Terminal G.terminals a → i < length w → get_or w i 0 ≡ a
      → Spans L G w α f (suc i) j → Spans L G w (a ∷ α) f i j
  node : {r b : ℕ} {α : List ℕ} {f g : Trees} {i k j : ℕ} → AppliesRuleOf L G b r
      → Spans L G w (rule L G r).right f i k → Spans L G w α g k j → Spans L G w (b ∷ α) (tree r f g) i j

-- the larger of two numbers
unfoldable pub max_of : ℕ → ℕ → ℕ
max_of zero b = b
max_of (suc a) zero = suc a
max_of (suc a) (suc b) = suc (max_of a b)

-- as many forests wait at most when a forest is walked through from the root, children left to right
unfoldable mutual
  pub depth : Trees → ℕ
  depth Trees.none = 0
  depth (Trees.child t g) = max_of (depth_of t) (depth g)

  pub depth_of : Tree → ℕ
  depth_of (Tree.node r f) = suc (depth f)

-- v forests of the set, if v is 1 or 2; two if it is more; the first of a depth of at most d
pub record AtLeast (d v : ℕ) (X : Trees → Type 0) : Type 0 where
  pub first : 1 ≤ v → (f : Trees) × (X f × (depth f ≤ d))
  pub second : 2 ≤ v → (f : Trees) × ((g : Trees) × (X f × X g × (f ≡ g → ⊥)))
