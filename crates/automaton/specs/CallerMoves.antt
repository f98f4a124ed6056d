-- The moves of the position automaton with m callers, as lists by states' numbers.
-- Source: document 02, [11]. That they are the moves of Callers.antt, each once, is `with_listed` in crate triple_laws. Assumes nothing.
use Rattle.std.specs.Prelude.{ℕ, zero, suc, ◌&&◌, List, [], ◌∷◌, ◌++◌, map, eqb, length, get_or, take}
use Rattle.grammar.specs.Basics.{when}
use Rattle.grammar.specs.Limits.{Limits}
use Rattle.grammar.specs.Grammar.{Rule, Grammar, rule}
use Rattle.grammar.specs.Live.{is_live}
use Rattle.automaton.specs.Items.{length_of}
use Rattle.automaton.specs.Moves.{Moves}
use Rattle.automaton.specs.PositionMoves.{moves_of}
use Rattle.automaton.specs.Callers.{Spot, first, last, spot, same_items, code_at, spots, number_of}

module _ (L : Limits) (G : Grammar) where
  -- the code after the dot, or 0
  unfoldable pub spot_ahead : Spot → ℕ
  spot_ahead first = 0
  spot_ahead last = 0
  spot_ahead (spot i d cs) = code_at L G (i, d)

  -- the dot one place on
  unfoldable pub spot_after : Spot → Spot
  spot_after first = first
  spot_after last = last
  spot_after (spot i d cs) = spot i (suc d) cs

  -- numbers of the live rules of x, where the rules are numbered from i
  unfoldable pub live_rules : ℕ → ℕ → List Rule → List ℕ
  live_rules x i [] = []
  live_rules x i (r ∷ rs) = when (is_live L G i && eqb r.left x) (i ∷ []) ++ live_rules x (suc i) rs

  -- opening: each live rule of the nonterminal ahead, the item before it now the nearest caller
  unfoldable pub spot_openings : ℕ → Spot → List (ℕ × ℕ)
  spot_openings m first = when (is_live L G 0) ((0, number_of L G m (spot 0 0 [])) ∷ [])
  spot_openings m last = []
  spot_openings m (spot j d cs) = map (λ i. (i, number_of L G m (spot i 0 (take m ((j, d) ∷ cs))))) (live_rules (code_at L G (j, d)) 1 G.rules)

  -- the states before x whose item and callers begin with ds
  unfoldable pub returns : ℕ → ℕ → List (ℕ × ℕ) → List Spot → List Spot
  returns m x ds [] = []
  returns m x ds (first ∷ ts) = returns m x ds ts
  returns m x ds (last ∷ ts) = returns m x ds ts
  returns m x ds (spot j d cs ∷ ts) =
      when (eqb (code_at L G (j, d)) x && same_items (take m ((j, d) ∷ cs)) ds) (spot j d cs ∷ []) ++ returns m x ds ts

  -- closing at the end of a live rule: past each item that its callers allow
  unfoldable pub spot_closings : ℕ → Spot → List (ℕ × ℕ)
  spot_closings m first = []
  spot_closings m last = []
  spot_closings m (spot zero d cs) = when (is_live L G 0 && eqb d 1) ((0, 1) ∷ [])
  spot_closings m (spot (suc i) d cs) =
      when (is_live L G (suc i) && eqb d (length_of L G (suc i)))
      (map (λ t. (suc i, number_of L G m (spot_after t))) (returns m (rule L G (suc i)).left cs (spots L G m)))

  -- the moves with m callers
  abbrev pub moves_at : ℕ → Moves
  moves_at m = record {
    states = length (spots L G m);
    terminals = G.terminals;
    ahead = λ p. spot_ahead (get_or (spots L G m) p last);
    after = λ p. number_of L G m (spot_after (get_or (spots L G m) p last));
    openings = λ p. spot_openings m (get_or (spots L G m) p last);
    closings = λ p. spot_closings m (get_or (spots L G m) p last);
  }

  -- at m = 0 these are the lists of the position automaton, which have the same moves (`zero-listed`) and are quicker computed
  abbrev pub moves_with : ℕ → Moves
  moves_with zero = moves_of L G
  moves_with (suc m) = moves_at (suc m)
