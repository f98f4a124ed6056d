-- A chart of counts up to 2: what its counts make of each other, and when they are not too large, settled and stable. Assumes nothing.
use Rattle.std.specs.Prelude.{ℕ, zero, suc, ◌+◌, ◌-◌, ◌*◌, ◌≤◌, ◌<◌, ◌≡◌, ◌&&◌, List, [], ◌∷◌, eqb, ltb, leb, length, get_or}
use Rattle.grammar.specs.Basics.{choose}
use Rattle.grammar.specs.Limits.{Limits}
use Rattle.grammar.specs.Grammar.{Terminal, Grammar, IsRule, start, rule}
use Rattle.grammar.specs.Tree.{AppliesRuleOf}
use Rattle.tree_laws.specs.Spans.{Spans, AtLeast}

-- 0, 1, or 2 for more
unfoldable pub cap : ℕ → ℕ
cap zero = 0
cap (suc zero) = 1
cap (suc (suc n)) = 2

-- the places of a grammar's rules: what stands after the dot, and the place with the dot in front of a rule
pub record Places (L : Limits) (G : Grammar) : Type 0 where
  pub rest : ℕ → List ℕ
  pub first : ℕ → ℕ
  pub on : (p x : ℕ) (α : List ℕ) → rest p ≡ x ∷ α → rest (suc p) ≡ α
  pub begins : (r : ℕ) → IsRule G r → rest (first r) ≡ (rule L G r).right

-- counts: of what stands after a dot, and of a nonterminal, from place i to place j
pub record Chart : Type 0 where
  pub item : ℕ → ℕ → ℕ → ℕ
  pub whole : ℕ → ℕ → ℕ → ℕ

-- the first m splits of b and what comes after p, between i and j
unfoldable pub splits : Chart → ℕ → ℕ → ℕ → ℕ → ℕ → ℕ
splits C b p i j zero = 0
splits C b p i j (suc m) = splits C b p i j m + C.whole b i (i + m) * C.item p (i + m) j

-- the first m rules, as far as they are rules of b
unfoldable pub kin : (L : Limits) (G : Grammar) → Places L G → Chart → ℕ → ℕ → ℕ → ℕ → ℕ
kin L G P C b i j zero = 0
kin L G P C b i j (suc m) = kin L G P C b i j m + choose (eqb (rule L G (suc m)).left b) (C.item (P.first (suc m)) i j) 0

module _ (L : Limits) (G : Grammar) (w : List ℕ) where
  -- what the others make of the count of a place p, of whose rest x comes first, from i to j
  unfoldable pub made : Chart → ℕ → ℕ → ℕ → ℕ → ℕ
  made C x p i j =
      choose (leb (start L) x) (splits C x (suc p) i j (suc (j - i)))
      (choose (ltb i j && eqb (get_or w i 0) x) (C.item (suc p) (suc i) j) 0)

  -- that count is no less
  abbrev pub Settled : Chart → ℕ → ℕ → ℕ → ℕ → Type 0
  Settled C x p i j = cap (made C x p i j) ≤ C.item p i j

module _ (L : Limits) (G : Grammar) (w : List ℕ) (P : Places L G) where
  -- no count is too large, and the first forests are within a depth
  abbrev pub SoundTo : ℕ → Chart → Type 0
  SoundTo d C = (p i j : ℕ) → i ≤ j → j ≤ length w → AtLeast d (C.item p i j) (λ f. Spans L G w (P.rest p) f i j)

  -- a nonterminal's count is the sum over its rules
  abbrev pub Sums : Chart → Type 0
  Sums C = (b i j : ℕ) → i ≤ j → j ≤ length w → C.whole b i j ≡ cap (kin L G P C b i j (length G.rules))

  -- a chart is stable when no count is less than what the others make of it
  pub record Stable (C : Chart) : Type 0 where
    pub at-end : (p i : ℕ) → P.rest p ≡ [] → i ≤ length w → 1 ≤ C.item p i i
    pub at_leaf : (p a i j : ℕ) (α : List ℕ) → P.rest p ≡ a ∷ α → Terminal G.terminals a → i < j → j ≤ length w → get_or w i 0 ≡ a
        → cap (C.item (suc p) (suc i) j) ≤ C.item p i j
    pub at-node : (p b r i j : ℕ) (α : List ℕ) → P.rest p ≡ b ∷ α → AppliesRuleOf L G b r → i ≤ j → j ≤ length w
        → cap (splits C b (suc p) i j (suc (j - i))) ≤ C.item p i j
    pub at-whole : (b r i j : ℕ) → AppliesRuleOf L G b r → i ≤ j → j ≤ length w → cap (kin L G P C b i j (length G.rules)) ≤ C.whole b i j
