-- Tables carried over from limits to wider ones: nonterminal codes move up by the difference of the bases.
-- Source: document 02, [8]. Terminal codes, and the lengths in a table, lie below the base and stay. Assumes nothing.
use Rattle.std.specs.Prelude.{ℕ, ◌+◌, ◌-◌, ◌≤◌, ◌<◌, ◌≡◌, List, map, ltb}
use Rattle.grammar.specs.Basics.{choose}
use Rattle.grammar.specs.Limits.{Limits}
use Rattle.grammar.specs.Grammar.{Rule, Grammar}
use Rattle.grammar.specs.Live.{is_live}
use Rattle.grammar.specs.TableCheck.{check_table}
use Rattle.grammar.specs.Refusal.{done}
use Rattle.automaton.specs.Items.{states}
use Rattle.automaton.specs.AllMoves.{move_count}
use Rattle.automaton.specs.PositionMoves.{moves_of}
use Rattle.triples.specs.Smallest.{smallest}
use Rattle.triples.specs.Certificate.{check_bytes}
use Rattle.triples.specs.Witness.{check_row}
use Rattle.triples.specs.Shortest.{shortest}
use Rattle.triples.specs.Looked.{looked_at}
use Rattle.search.specs.Promise.{is_potential}

-- a code from the base b on moves up by d
unfoldable pub moved : ℕ → ℕ → ℕ → ℕ
moved b d x = choose (ltb x b) x (x + d)

abbrev pub moved_rule : ℕ → ℕ → Rule → Rule
moved_rule b d r = record { left = moved b d r.left; right = map (moved b d) r.right }

module _ (L M : Limits) where
  -- how far the base moves
  abbrev pub distance : ℕ
  distance = M.nonterminal_base - L.nonterminal_base

  -- the table, entry by entry, and the grammar, carried from limits L to limits M
  abbrev pub carried_table : List ℕ → List ℕ
  carried_table table = map (moved L.nonterminal_base distance) table

  abbrev pub carried_grammar : Grammar → Grammar
  carried_grammar G = record {
    terminals = G.terminals;
    nonterminals = G.nonterminals;
    rules = map (moved_rule L.nonterminal_base distance) G.rules;
  }

  -- M takes whatever L takes; L's terminals and lengths lie below its base
  pub record Wider : Type 0 where
    pub terminals : L.max_terminals ≤ M.max_terminals
    pub nonterminals : L.max_nonterminals ≤ M.max_nonterminals
    pub base : L.nonterminal_base ≤ M.nonterminal_base
    pub lengths : L.max_length ≤ M.max_length
    pub rules : L.max_rules ≤ M.max_rules
    pub states : L.max_states ≤ M.max_states
    pub four : 4 ≤ L.max_states
    pub apart : L.max_terminals < L.nonterminal_base
    pub short : L.max_length < L.nonterminal_base

  -- what is the same of a table that passed under L and of the carried one under M
  pub record Same (t n : ℕ) (table : List ℕ) (G : Grammar) : Type 0 where
    -- it passes, with the carried grammar, which has as many states, live rules and moves
    pub passes : check_table M t n (carried_table table) ≡ done (carried_grammar G)
    pub states : states (carried_grammar G) ≡ states G
    pub live : (i : ℕ) → is_live M (carried_grammar G) i ≡ is_live L G i
    pub moves : move_count (moves_of M (carried_grammar G)) ≡ move_count (moves_of L G)
    -- the verdict; the smallest closed set, so its size and its certificate; the shortest witness; how many successors are looked at
    pub verdict : is_potential (moves_of M (carried_grammar G)) ≡ is_potential (moves_of L G)
    pub smallest : smallest (moves_of M (carried_grammar G)) ≡ smallest (moves_of L G)
    pub witness : shortest (moves_of M (carried_grammar G)) ≡ shortest (moves_of L G)
    pub looked : looked_at (moves_of M (carried_grammar G)) ≡ looked_at (moves_of L G)
    -- whatever the bytes and whatever the row, the certificate check and the witness check answer as before
    pub certificates : (bytes : List ℕ) → check_bytes (moves_of M (carried_grammar G)) bytes ≡ check_bytes (moves_of L G) bytes
    pub witnesses : (row : List ℕ) → check_row (moves_of M (carried_grammar G)) row ≡ check_row (moves_of L G) row
