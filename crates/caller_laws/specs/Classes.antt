-- The classes of the states with m + 1 callers: a state is entered and left through the states with m callers. An opening makes a
-- state, with its farthest caller dropped, the caller of what it leads to; a closing leads past a state that, with its farthest
-- caller dropped, is the caller of what is closed. So the numbers of the states with m callers are the classes; K, their number,
-- is the number of closing classes and of opening ones.
-- Assumes nothing.
use Rattle.std.specs.Prelude.{ℕ, zero, suc, ◌+◌, ◌*◌, ◌≤◌, ◌<◌, ◌≡◌, List, [], ◌∷◌, ◌++◌, eqb, leb, length, get_or, take}
use Rattle.grammar.specs.Basics.{choose, when}
use Rattle.grammar.specs.Limits.{Limits, limits}
use Rattle.grammar.specs.Grammar.{Grammar}
use Rattle.automaton.specs.Items.{length_of}
use Rattle.automaton.specs.Callers.{Spot, first, last, spot, same_items, code_at, spots, number_of}
use Rattle.automaton.specs.CallerMoves.{spot_ahead, spot_after}
use Rattle.moves.specs.Tables.{most_kinds, Sorted, Tables}

-- the state with one caller fewer that calls: the start calls rule 0
abbrev pub caller_of : List (ℕ × ℕ) → Spot
caller_of [] = first
caller_of (c ∷ cs) = spot c.0 c.1 cs

module _ (L : Limits) (G : Grammar) (m : ℕ) where
  abbrev pub kinds : ℕ
  kinds = length (spots L G m)

  -- the class that a state with m + 1 callers moves by
  unfoldable pub member_of : Spot → ℕ
  member_of first = kinds + number_of L G m first
  member_of last = 2 * kinds
  member_of (spot i d cs) =
      choose (eqb d (length_of L G i)) (number_of L G m (caller_of cs))
      (choose (leb L.nonterminal_base (code_at L G (i, d))) (kinds + number_of L G m (spot i d (take m cs))) (2 * kinds))

  -- the class that leads to it
  unfoldable pub target_of : Spot → ℕ
  target_of first = 2 * kinds + 1
  target_of last = number_of L G m first
  target_of (spot i zero cs) = kinds + number_of L G m (caller_of cs)
  target_of (spot i (suc d) cs) =
      choose (leb L.nonterminal_base (code_at L G (i, d))) (number_of L G m (spot i d (take m cs))) (2 * kinds + 1)

-- the place of a chain in a list of chains, or the list's length
unfoldable pub rank : List (ℕ × ℕ) → List (List (ℕ × ℕ)) → ℕ
rank cs [] = 0
rank cs (ds ∷ k) = choose (same_items ds cs) 0 (suc (rank cs k))

-- the rule of a state
abbrev pub rule_at : Spot → ℕ
rule_at first = 0
rule_at last = 0
rule_at (spot i d cs) = i

-- what rows of numbers must be to show the automaton with m + 1 callers: entry by entry what its states say, and the states of each
-- class sorted by the class that leads to them
pub record RowsAre (G : Grammar) (m : ℕ) (T : Tables) : Type 0 where
  pub few : length (spots limits G (suc m)) ≤ limits.max_states
  pub kinds-few : kinds limits G m ≤ most_kinds
  pub long : length (spots limits G (suc m)) ≤ length T.target
  pub ahead : (p : ℕ) → p < length (spots limits G (suc m)) → get_or T.ahead p 0 ≡ spot_ahead limits G (get_or (spots limits G (suc m)) p last)
  pub number : (p : ℕ) → p < length (spots limits G (suc m)) → get_or T.number p 0 ≡ rule_at (get_or (spots limits G (suc m)) p last)
  pub member : (p : ℕ) → p < length (spots limits G (suc m)) → get_or T.member p 0 ≡ member_of limits G m (get_or (spots limits G (suc m)) p last)
  pub target : (p : ℕ) → p < length (spots limits G (suc m)) → get_or T.target p 0 ≡ target_of limits G m (get_or (spots limits G (suc m)) p last)
  pub after : (p : ℕ) → p < length (spots limits G (suc m)) → 1 ≤ spot_ahead limits G (get_or (spots limits G (suc m)) p last)
      → get_or T.after p 0 ≡ number_of limits G (suc m) (spot_after limits G (get_or (spots limits G (suc m)) p last))
  pub old : List ℕ
  pub sorted : Sorted (take (length (spots limits G (suc m))) T.target) (2 * kinds limits G m + 1) old T.first T.targets

module _ (L : Limits) (G : Grammar) where
  -- the states of a list that stand before x, in order
  unfoldable pub states_before : ℕ → List Spot → List Spot
  states_before x [] = []
  states_before x (s ∷ l) = when (eqb (spot_ahead L G s) x) (s ∷ []) ++ states_before x l
