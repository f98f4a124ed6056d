-- What is computed from the lists of moves, and whose moves they are: with this a reader of the promises need not believe the lists
-- (automaton/specs/PositionMoves.antt). Then the indices of triples. Source: document 01, "States and moves", "Triples, certificate,
-- witness"; document 02, [3], [7].
-- Assumes nothing.
use Rattle.std.specs.Prelude.{ℕ, ◌≤◌, ◌<◌, ◌≡◌, true, ◌↔◌, length}
use Rattle.grammar.specs.Basics.{Mem, Distinct}
use Rattle.grammar.specs.Limits.{limits}
use Rattle.grammar.specs.Grammar.{Grammar}
use Rattle.grammar.specs.Live.{Live, is_live}
use Rattle.automaton.specs.Items.{states}
use Rattle.automaton.specs.Moves.{Regular, Lists}
use Rattle.automaton.specs.Position.{position}
use Rattle.automaton.specs.PositionMoves.{moves_of}
use Rattle.triples.specs.Index.{index, triple_count}
use Rattle.triples.specs.Successor.{Reached}
use Rattle.triples.specs.Smallest.{smallest}

-- of a well-formed grammar
pub record AutomatonTheorems (G : Grammar) : Type 0 where
  -- document 02, [3]: the test of a rule finds exactly those that some sentence uses, and rule 0 if there is a sentence
  pub live : (i : ℕ) → i ≤ length G.rules → (is_live limits G i ≡ true) ↔ Live limits G i
  -- the lists are the moves of the position automaton, and lead to its states
  pub listed : Lists (position limits G) (moves_of limits G)
  pub regular : Regular (moves_of limits G)
  -- the computed set has each triple that is reached, once, and no other index: so the computed size is their number
  pub reached : (f p q : ℕ) → f < 2 → p < states G → q < states G
      → Reached (position limits G) f p q ↔ Mem (index (states G) f p q) (smallest (moves_of limits G))
  pub inside : (i : ℕ) → Mem i (smallest (moves_of limits G)) → i < triple_count (states G)
  pub once : Distinct (smallest (moves_of limits G))

-- document 02, [7]: unequal triples have unequal indices, and these are below 2Q²
pub record IndexTheorems (Q : ℕ) : Type 0 where
  pub below : (f p q : ℕ) → f < 2 → p < Q → q < Q → index Q f p q < triple_count Q
  pub apart : (f p q g r s : ℕ) → f < 2 → p < Q → q < Q → g < 2 → r < Q → s < Q
      → ¬ ((f ≡ g) × (p ≡ r) × (q ≡ s)) → ¬ (index Q f p q ≡ index Q g r s)
