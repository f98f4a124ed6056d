-- The rows by which a chart is filled, made state by state from the codes ahead and the classes. Assumes nothing.
use Rattle.std.specs.Prelude.{ℕ, ◌+◌, ◌-◌, ◌*◌, ◌≤◌, ◌<◌, ◌≡◌, ◌&&◌, List, ltb, leb, length, get_or}
use Rattle.grammar.specs.Basics.{choose}
use Rattle.grammar.specs.Limits.{limits}
use Rattle.grammar.specs.Grammar.{start}

-- n nonterminals and Q states are within the limits, the codes ahead too; state 0 is before no nonterminal and ends no rule
pub record Wirable (ahead member : List ℕ) (n Q : ℕ) : Type 0 where
  pub nonterminals : n ≤ limits.max_nonterminals
  pub states : Q ≤ limits.max_states
  pub codes : (p : ℕ) → p < Q → get_or ahead p 0 < start limits + limits.max_nonterminals
  pub front : get_or ahead 0 0 < start limits
  pub no_end : n ≤ get_or member 0 0

-- a row of 0
abbrev pub Zeros : List ℕ → Type 0
Zeros row = (k : ℕ) → get_or row k 0 ≡ 0

-- rows with room for Q states and all nonterminals
pub record Roomy (Q : ℕ) (lead next head home : List ℕ) : Type 0 where
  pub leads : Q ≤ length lead
  pub nexts : Q ≤ length next
  pub heads : length head ≡ limits.max_nonterminals
  pub homes : limits.max_nonterminals ≤ length home

-- the left side of the rule that a state begins, by the class that leads to it: an opening of one of n nonterminals
unfoldable pub lead_of : ℕ → ℕ → ℕ
lead_of n z = choose (leb (n + 1) z && ltb z (2 * n + 1)) (z - (n + 1) + start limits) 0

-- the states below p have their leads
abbrev pub Leads : List ℕ → ℕ → ℕ → List ℕ → Type 0
Leads target n p lead = (s : ℕ) → s < p → get_or lead s 0 ≡ lead_of n (get_or target s 0)

-- the states below p are linked
pub record Links (ahead : List ℕ) (p : ℕ) (next head : List ℕ) : Type 0 where
  pub head-most : (s c : ℕ) → s < p → get_or ahead s 0 ≡ start limits + c → s ≤ get_or head c 0
  pub head-same : (c : ℕ) → 1 ≤ get_or head c 0 → (get_or ahead (get_or head c 0) 0 ≡ start limits + c) × (get_or head c 0 < p)
  pub nexts : (s : ℕ) → 1 ≤ s → get_or next s 0 < s
  pub next-most : (t s : ℕ) → t < s → s < p → start limits ≤ get_or ahead s 0 → get_or ahead t 0 ≡ get_or ahead s 0 → t ≤ get_or next s 0
  pub next-same : (s : ℕ) → 1 ≤ get_or next s 0 → get_or ahead (get_or next s 0) 0 ≡ get_or ahead s 0
  pub later : (s : ℕ) → p ≤ s → get_or next s 0 ≡ 0

-- the ends below p are homes
pub record Homes (member : List ℕ) (n p : ℕ) (home : List ℕ) : Type 0 where
  pub same : (c : ℕ) → 1 ≤ get_or home c 0 → (get_or member (get_or home c 0) 0 ≡ c) × (c < n) × (get_or home c 0 < p)
  pub most : (s c : ℕ) → 1 ≤ s → s < p → get_or member s 0 ≡ c → c < n → 1 ≤ get_or home c 0
