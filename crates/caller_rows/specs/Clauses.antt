-- What the contracts of the simple rows say: keys, widths, ranks. Assumes nothing.
use Rattle.std.specs.Prelude.{ℕ, zero, suc, ◌+◌, ◌-◌, ◌*◌, ◌≤◌, ◌<◌, ◌≡◌, List, eqb, ltb, leb, length, get_or, replicate}
use Rattle.grammar.specs.Basics.{choose}
use Rattle.grammar.specs.Limits.{limits}

-- the first q entries of a row are written, by their place, and no others
pub record Filled (old new : List ℕ) (q : ℕ) (f : ℕ → ℕ) : Type 0 where
  pub size : length new ≡ length old
  pub inside : (p : ℕ) → p < q → get_or new p 0 ≡ f p
  pub outside : (p : ℕ) → q ≤ p → get_or new p 0 ≡ get_or old p 0

-- the first q entries of a row are below a number
abbrev pub Under : List ℕ → ℕ → ℕ → Type 0
Under row q most = (p : ℕ) → p < q → get_or row p 0 < most

-- the number of the nonterminal with code x, or n + 1
abbrev pub key_of : ℕ → ℕ → ℕ
key_of n x = choose (leb limits.nonterminal_base x) (x - limits.nonterminal_base) (n + 1)

-- the key of a state: n for state 0, which stands before S'
abbrev pub key_at : List ℕ → ℕ → ℕ → ℕ
key_at ahead n p = choose (eqb p 0) n (key_of n (get_or ahead p 0))

-- the first entries of a row are states, each once
pub record Rankable (callers : List ℕ) (to : ℕ) : Type 0 where
  pub within : to ≤ length callers
  pub few : to ≤ limits.max_states
  pub small : (k : ℕ) → k < to → get_or callers k 0 < limits.max_states
  pub apart : (j k : ℕ) → j < to → k < to → get_or callers j 0 ≡ get_or callers k 0 → j ≡ k

-- the states listed from one place up to another have their places there as ranks; those listed before keep theirs
pub record SegmentRanked (callers : List ℕ) (from to : ℕ) (old new : List ℕ) : Type 0 where
  pub size : length new ≡ length old
  pub inside : (k : ℕ) → from ≤ k → k < to → get_or new (get_or callers k 0) 0 ≡ k - from
  pub kept : (k : ℕ) → k < from → get_or new (get_or callers k 0) 0 ≡ get_or old (get_or callers k 0) 0
  pub little : ((c : ℕ) → get_or old c 0 ≤ limits.max_states) → (c : ℕ) → get_or new c 0 ≤ limits.max_states

-- segments follow one another
pub record Segments (first callers : List ℕ) (kinds : ℕ) : Type 0 where
  pub long : kinds < length first
  pub kinds-few : kinds ≤ limits.max_nonterminals + 1
  pub order : (a b : ℕ) → a ≤ b → b ≤ kinds → get_or first a 0 ≤ get_or first b 0
  pub rankable : Rankable callers (get_or first kinds 0)

-- the states of n segments have their places in them as ranks
pub record RanksWritten (first callers : List ℕ) (n : ℕ) (old new : List ℕ) : Type 0 where
  pub size : length new ≡ length old
  pub inside : (b k : ℕ) → b < n → get_or first b 0 ≤ k → k < get_or first (b + 1) 0 → get_or new (get_or callers k 0) 0 ≡ k - get_or first b 0
  pub little : ((c : ℕ) → get_or old c 0 ≤ limits.max_states) → (c : ℕ) → get_or new c 0 ≤ limits.max_states

-- of each state the rank of the state that it is below: the places in the sorted callers, written to a row of zeros, handed on
pub record RanksPassed (first callers : List ℕ) (n : ℕ) (down : List ℕ) (q : ℕ) (old new : List ℕ) : Type 0 where
  pub below : List ℕ
  pub written : RanksWritten first callers n (replicate limits.max_states 0) below
  pub passed : Filled old new q (λ p. get_or below (get_or down p 0) 0)

-- a left side has a segment
pub record Segmented (first : List ℕ) (left : ℕ) : Type 0 where
  pub code : limits.nonterminal_base ≤ left
  pub within : left - limits.nonterminal_base + 1 < length first
  pub order : get_or first (left - limits.nonterminal_base) 0 ≤ get_or first (left - limits.nonterminal_base + 1) 0

-- and that has so many entries
abbrev pub width_of : List ℕ → ℕ → ℕ
width_of first left = get_or first (left - limits.nonterminal_base + 1) 0 - get_or first (left - limits.nonterminal_base) 0

-- the callers of a rule, none if it is not live
abbrev pub width_at : List ℕ → List ℕ → List ℕ → ℕ → ℕ
width_at lefts live first i = choose (ltb 0 (get_or live i 0)) (width_of first (get_or lefts i 0)) 0

-- no product of two 16-bit numbers is greater
abbrev pub most_product : ℕ
most_product = 65536 * 65536

-- where the states of a rule begin, the rules numbered from 0, after 0, 1 and those of rule 0
unfoldable pub start_of : List ℕ → List ℕ → ℕ → ℕ
start_of lengths widths zero = 4
start_of lengths widths (suc i) = start_of lengths widths i + (get_or lengths i 0 + 1) * get_or widths i 0
