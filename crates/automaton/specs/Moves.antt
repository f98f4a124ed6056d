-- The moves of an automaton as lists, with which its triples are computed; what the laws of order need of such lists (`Regular`);
-- and what it is for lists to be an automaton's moves (`Lists`).
-- Whatever is computed of triples is computed from this record: it does not matter what the states stand for.
-- Source: document 01, "States and moves". Assumes nothing.
use Rattle.std.specs.Prelude.{ℕ, ◌≤◌, ◌<◌, ◌≡◌, Bool, List, ◌↔◌}
use Rattle.grammar.specs.Basics.{Mem, Distinct}
use Rattle.grammar.specs.Grammar.{Terminal}
use Rattle.grammar.specs.TableCheck.{is_terminal}
use Rattle.automaton.specs.Automaton.{Automaton}

pub record Moves : Type 0 where
  -- Q
  pub states : ℕ
  -- t: the codes 1 to t are terminals
  pub terminals : ℕ
  -- of a state the code ahead of its dot, or 0, which is no symbol's; and the state after a shift of it
  pub ahead : ℕ → ℕ
  pub after : ℕ → ℕ
  -- the openings and the closings of a state: rule and next state
  pub openings : ℕ → List (ℕ × ℕ)
  pub closings : ℕ → List (ℕ × ℕ)

module _ (M : Moves) where
  -- a terminal is ahead of the state
  abbrev pub terminal_ahead : ℕ → Bool
  terminal_ahead p = is_terminal M.terminals (M.ahead p)

  -- the automaton that has just these moves: state 0 is the start, 1 the end; laws go over it, no claim is made of it
  abbrev pub listed : Automaton
  listed = record {
    State = ℕ;
    states = M.states;
    number = λ p. p;
    first = 0;
    last = 1;
    Terminal = Terminal M.terminals;
    Opens = λ i p q. Mem {A = ℕ × ℕ} (i, q) (M.openings p);
    Closes = λ i p q. Mem {A = ℕ × ℕ} (i, q) (M.closings p);
    Shifts = λ x p q. (M.ahead p ≡ x) × (1 ≤ x) × (q ≡ M.after p);
  }

  -- the lists are regular, as those of a well-formed grammar's items are
  pub record Regular : Type 0 where
    -- there are at least 0, 1 and the two items of rule 0
    pub four : 4 ≤ M.states
    -- moves lead to states, a shift to a later one
    pub opens-below : (i p q : ℕ) → Mem {A = ℕ × ℕ} (i, q) (M.openings p) → q < M.states
    pub closes-below : (i p q : ℕ) → Mem {A = ℕ × ℕ} (i, q) (M.closings p) → q < M.states
    pub shifts-below : (p : ℕ) → 1 ≤ M.ahead p → M.after p < M.states
    pub later : (p : ℕ) → 1 ≤ M.ahead p → p < M.after p
    -- no move is listed twice; two openings to one state are of one rule, all closings of a state are of one rule
    pub opens_once : (p : ℕ) → Distinct (M.openings p)
    pub closes_once : (p : ℕ) → Distinct (M.closings p)
    pub one-opening : (i j p q : ℕ) → Mem {A = ℕ × ℕ} (i, q) (M.openings p) → Mem {A = ℕ × ℕ} (j, q) (M.openings p) → i ≡ j
    pub one-closing : (i j p q r : ℕ) → Mem {A = ℕ × ℕ} (i, q) (M.closings p) → Mem {A = ℕ × ℕ} (j, r) (M.closings p) → i ≡ j
    -- no opening leads where the shift leads
    pub opens_apart : (i p q : ℕ) → 1 ≤ M.ahead p → Mem {A = ℕ × ℕ} (i, q) (M.openings p) → ¬ (q ≡ M.after p)
    -- a state before a terminal does not open; one that stands before a symbol, or opens, does not close
    pub terminal_no_open : (i p q : ℕ) → Terminal M.terminals (M.ahead p) → Mem {A = ℕ × ℕ} (i, q) (M.openings p) → ⊥
    pub ahead_no_close : (i p q : ℕ) → 1 ≤ M.ahead p → Mem {A = ℕ × ℕ} (i, q) (M.closings p) → ⊥
    pub opens_no_close : (i j p q r : ℕ) → Mem {A = ℕ × ℕ} (i, q) (M.openings p) → Mem {A = ℕ × ℕ} (j, r) (M.closings p) → ⊥

-- the lists are the moves of an automaton, by the numbers of its states; regular lists have no others from numbers below Q, since
-- theirs lead to numbers below Q
pub record Lists (A : Automaton) (M : Moves) : Type 0 where
  pub states : A.states ≡ M.states
  pub terminal : (x : ℕ) → A.Terminal x ↔ Terminal M.terminals x
  -- the start has number 0, the end 1; each number below Q is that of one state
  pub first : A.number A.first ≡ 0
  pub last : A.number A.last ≡ 1
  pub every : (p : ℕ) → p < A.states → (s : A.State) × (A.number s ≡ p)
  pub one : (s t : A.State) → A.number s < A.states → A.number s ≡ A.number t → s ≡ t
  -- openings, closings and shifts
  pub opens : (i : ℕ) (s t : A.State) → A.Opens i s t ↔ Mem {A = ℕ × ℕ} (i, A.number t) (M.openings (A.number s))
  pub closes : (i : ℕ) (s t : A.State) → A.Closes i s t ↔ Mem {A = ℕ × ℕ} (i, A.number t) (M.closings (A.number s))
  pub shifts : (x : ℕ) (s t : A.State) → A.Shifts x s t
      ↔ ((M.ahead (A.number s) ≡ x) × (1 ≤ x) × (A.number t ≡ M.after (A.number s)))
