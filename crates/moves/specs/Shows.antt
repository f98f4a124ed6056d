-- What it is for rows of numbers to show an automaton's moves: all that those who read the rows know of them. It does not matter
-- what the states stand for, nor how the classes are numbered, but that m classes close and the next m open.
-- Assumes nothing.
use Rattle.std.specs.Prelude.{ℕ, ◌+◌, ◌*◌, ◌≤◌, ◌<◌, ◌≡◌, ◌⊎◌, ◌↔◌, get_or}
use Rattle.grammar.specs.Basics.{Mem}
use Rattle.grammar.specs.Limits.{limits}
use Rattle.automaton.specs.Moves.{Moves}
use Rattle.moves.specs.Tables.{most_kinds, Ascends, segment, Tables}

module _ (M : Moves) where
  -- rule i is opened, or closed, from p to q
  abbrev pub Opened : ℕ → ℕ → ℕ → Type 0
  Opened i p q = Mem {A = ℕ × ℕ} (i, q) (M.openings p)

  abbrev pub Closed : ℕ → ℕ → ℕ → Type 0
  Closed i p q = Mem {A = ℕ × ℕ} (i, q) (M.closings p)

  -- p moves alone to q
  abbrev pub Alone : ℕ → ℕ → Type 0
  Alone p q = ((i : ℕ) × Opened i p q) ⊎ ((i : ℕ) × Closed i p q)

  pub record Shows (t m : ℕ) (T : Tables) : Type 0 where
    -- t is the number of terminals; Q and m are within their limits
    pub terminals : t ≡ M.terminals
    pub few : M.states ≤ limits.max_states
    pub kinds : m ≤ most_kinds
    -- of each state the code ahead, and the state after a shift of it
    pub ahead : (p : ℕ) → p < M.states → get_or T.ahead p 0 ≡ M.ahead p
    pub after : (p : ℕ) → p < M.states → 1 ≤ M.ahead p → get_or T.after p 0 ≡ M.after p
    -- a state moves alone to another exactly when its class leads there
    pub leads : (p q : ℕ) → p < M.states → q < M.states → (get_or T.member p 0 ≡ get_or T.target q 0) ↔ Alone p q
    -- classes go up to 2m, that of the states that move nowhere
    pub class : (p : ℕ) → p < M.states → get_or T.member p 0 ≤ 2 * m
    -- classes of states before a symbol and of states that open are from m on, closing classes below
    pub ahead_class : (p : ℕ) → p < M.states → 1 ≤ M.ahead p → m ≤ get_or T.member p 0
    pub opens_class : (i p q : ℕ) → p < M.states → Opened i p q → m ≤ get_or T.member p 0
    pub closes_class : (i p q : ℕ) → p < M.states → Closed i p q → get_or T.member p 0 < m
    -- the rule that is opened is that of the target, the rule that is closed that of the state
    pub opens_number : (i p q : ℕ) → q < M.states → Opened i p q → get_or T.number q 0 ≡ i
    pub closes_number : (i p q : ℕ) → p < M.states → Closed i p q → get_or T.number p 0 ≡ i
    -- the segment of a state's class lists, ascending, the states to which it moves alone
    pub targets : (p q : ℕ) → p < M.states → Mem q (segment T.first T.targets (get_or T.member p 0)) ↔ Alone p q
    pub ascends : (p : ℕ) → p < M.states → Ascends 0 M.states (segment T.first T.targets (get_or T.member p 0))
    pub order : (p : ℕ) → p < M.states → get_or T.first (get_or T.member p 0) 0 ≤ get_or T.first (get_or T.member p 0 + 1) 0
    pub inside : (p : ℕ) → p < M.states → get_or T.first (get_or T.member p 0 + 1) 0 ≤ M.states
