-- Rows of numbers that show a grammar's rules to the code that fills a chart: of each state the code ahead of its dot (0 at an end),
-- the left side of the rule that it begins (0 where it begins none) and the next lower state before the same nonterminal; of each
-- nonterminal, counted from the start, the highest state before it and its home, the state whose plane of the work row has its counts.
-- Assumes nothing.
use Rattle.std.specs.Prelude.{ℕ, suc, ◌+◌, ◌-◌, ◌*◌, ◌/◌, ◌≤◌, ◌<◌, ◌≡◌, ◌&&◌, List, [], ◌∷◌, eqb, ltb, leb, length, get_or, set}
use Rattle.grammar.specs.Basics.{choose}
use Rattle.grammar.specs.Limits.{limits}
use Rattle.grammar.specs.Grammar.{start}
use Rattle.trees.specs.Trees.{places}
use Rattle.tree_laws.specs.Chart.{cap}
use Rattle.counts.specs.Counts.{item_cell, splits_at}

-- the plane of a state's counts: all ends share that of state 3
unfoldable pub plane_of : List ℕ → ℕ → ℕ
plane_of ahead p = choose (eqb (get_or ahead p 0) 0) 3 p

-- the home of a code: 0, whose plane has only 0, for a code without rules
unfoldable pub home_of : List ℕ → ℕ → ℕ
home_of home b = choose (leb (start limits) b) (get_or home (b - start limits) 0) 0

-- what the work row makes of the count of the state before q, from i to j
unfoldable pub made_at : List ℕ → List ℕ → List ℕ → List ℕ → ℕ → ℕ → ℕ → ℕ
made_at row ahead home w q i j =
    choose (leb (start limits) (get_or ahead (q - 1) 0))
    (splits_at row (length w + 1) (home_of home (get_or ahead (q - 1) 0)) (plane_of ahead q) i j (suc (j - i)))
    (choose (ltb i j && eqb (get_or w i 0) (get_or ahead (q - 1) 0)) (get_or row (item_cell (length w + 1) (plane_of ahead q) (i + 1) j) 0) 0)

-- the codes ahead and the homes are in range
pub record Ready (Q : ℕ) (ahead home : List ℕ) : Type 0 where
  pub few : Q ≤ limits.max_states
  pub four : 4 ≤ Q
  pub codes : (p : ℕ) → p < Q → get_or ahead p 0 < start limits + limits.max_nonterminals
  pub homes : (c : ℕ) → get_or home c 0 < Q

-- the states before a nonterminal are linked, the highest first
pub record Linked (Q : ℕ) (ahead next head : List ℕ) : Type 0 where
  pub few : Q ≤ limits.max_states
  pub front : get_or ahead 0 0 ≡ 0
  pub heads : (c : ℕ) → get_or head c 0 + 1 < Q
  pub nexts : (p : ℕ) → 1 ≤ p → p < Q → get_or next p 0 < p
  pub head-most : (p c : ℕ) → p < Q → get_or ahead p 0 ≡ start limits + c → p ≤ get_or head c 0
  pub head-same : (c : ℕ) → 1 ≤ get_or head c 0 → get_or ahead (get_or head c 0) 0 ≡ start limits + c
  pub next-most : (s p : ℕ) → s < p → p < Q → start limits ≤ get_or ahead p 0 → get_or ahead s 0 ≡ get_or ahead p 0 → s ≤ get_or next p 0
  pub next-same : (p : ℕ) → p < Q → 1 ≤ get_or next p 0 → get_or ahead (get_or next p 0) 0 ≡ get_or ahead p 0

-- all rows
pub record Wired (Q : ℕ) (ahead lead next head home : List ℕ) : Type 0 where
  pub ready : Ready Q ahead home
  pub linked : Linked Q ahead next head
  pub lead_low : (p : ℕ) → p < Q → 1 ≤ get_or lead p 0 → start limits ≤ get_or lead p 0
  pub lead_high : (p : ℕ) → p < Q → get_or lead p 0 < start limits + limits.max_nonterminals

-- a work row of m × m entries for each of Q states, and a span of it
pub record Span (row : List ℕ) (Q m i j : ℕ) : Type 0 where
  pub cells : Q * m * m ≤ length row
  pub small : m ≤ places
  pub rises : i ≤ j
  pub inside : j < m

-- one count raised to what is made of it; by how much
pub record Settles (made at rise : ℕ) (row row' : List ℕ) : Type 0 where
  pub store : row' ≡ set row at (get_or row at 0 + rise)
  pub enough : cap made ≤ get_or row at 0 + rise
  pub exact : 1 ≤ rise → get_or row at 0 + rise ≡ cap made

-- the flags just past the states before a nonterminal are set, the others are as they were
pub record Flagged (ahead : List ℕ) (Q c top : ℕ) (flags flags' : List ℕ) : Type 0 where
  pub all : (p : ℕ) → p < Q → get_or ahead p 0 ≡ start limits + c → get_or flags' (p + 1) 0 ≡ 1
  pub kept : (h : ℕ) → get_or flags' h 0 ≡ 0 → get_or flags h 0 ≡ 0
  pub above : (h : ℕ) → top + 1 < h → get_or flags' h 0 ≡ get_or flags h 0

-- while the states before a nonterminal are followed down to p
pub record Mentioning (ahead : List ℕ) (Q c top p : ℕ) (flags flags' : List ℕ) : Type 0 where
  pub room : p + 1 < Q
  pub below : p ≤ top
  pub same : 1 ≤ p → get_or ahead p 0 ≡ start limits + c
  pub all : (s : ℕ) → p < s → s < Q → get_or ahead s 0 ≡ start limits + c → get_or flags' (s + 1) 0 ≡ 1
  pub kept : (h : ℕ) → get_or flags' h 0 ≡ 0 → get_or flags h 0 ≡ 0
  pub above : (h : ℕ) → top + 1 < h → get_or flags' h 0 ≡ get_or flags h 0
  pub size : length flags' ≡ length flags

-- how many flags share a byte
abbrev pub block : ℕ
block = 32

-- where the byte of a block is 0, no flag of it is set
pub record Covered (Q : ℕ) (flags blocks : List ℕ) : Type 0 where
  pub unset : (h : ℕ) → h < Q → get_or blocks (h / block) 0 ≡ 0 → get_or flags h 0 ≡ 0

-- no flag is set from q on
abbrev pub Clear : (Q : ℕ) (flags : List ℕ) (q : ℕ) → Type 0
Clear Q flags q = (h : ℕ) → q ≤ h → h < Q → get_or flags h 0 ≡ 0

-- how far the counts of a row are from 2, together: a rise makes this less
unfoldable pub slack : List ℕ → ℕ
slack [] = 0
slack (x ∷ l) = (2 - x) + slack l
