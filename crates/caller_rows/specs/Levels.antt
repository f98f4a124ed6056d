-- What the levels are, told by the automaton: what one level is written from, what its rows then say of each state, and what the
-- next level needs of it. Assumes nothing.
use Rattle.std.specs.Prelude.{ℕ, suc, ◌+◌, ◌≤◌, ◌<◌, ◌≡◌, Bool, true, List, [], ◌∷◌, map, length, get_or, take}
use Rattle.grammar.specs.Basics.{Mem}
use Rattle.grammar.specs.Limits.{limits}
use Rattle.grammar.specs.Grammar.{Grammar, WellFormed, rule}
use Rattle.grammar.specs.Record.{record_of}
use Rattle.grammar.specs.declared.CheckedGrammar.{CheckedGrammar}
use Rattle.grammar.specs.Live.{is_live}
use Rattle.automaton.specs.Callers.{Spot, first, last, spot, chains_of, spots, number_of}
use Rattle.automaton.specs.CallerMoves.{spot_ahead, spot_after}
use Rattle.live.specs.Marks.{right_at, Answers}
use Rattle.live.specs.Lent.{with_columns}
use Rattle.moves.specs.Tables.{places, segment}
use Rattle.caller_laws.specs.Classes.{caller_of, member_of, target_of, rule_at, rank}
use Rattle.caller_rows.specs.Clauses.{Filled, width_at, start_of}
use Rattle.caller_rule.specs.RuleRows.{Six, six}
use Rattle.caller_rows.specs.LevelRows.{callers_of}

-- what the level with m + 1 callers is written from: of rule i + 1 the symbols, the callers by their numbers with m callers, and how
-- many chains it has below; of a caller the rank of the chain below, which has the farthest caller dropped
pub record LevelOf (G : Grammar) (m : ℕ) (lefts lengths codes : List ℕ) (count K : ℕ) (first callers below widths ranks : List ℕ) : Type 0 where
  pub rules_are : count ≡ length G.rules
  pub kinds_are : K ≡ length (spots limits G m)
  pub lengths_are : (i : ℕ) → i < count → get_or lengths i 0 ≡ length (rule limits G (suc i)).right
  pub codes_are : (i : ℕ) → i < count → right_at lengths codes i ≡ (rule limits G (suc i)).right
  pub widths_are : (i : ℕ) → i < count → get_or widths i 0 ≡ length (chains_of limits G (suc m) (suc i))
  pub callers_are : (i : ℕ) → i < count → callers_of lefts first widths callers i ≡ map (λ cs. number_of limits G m (caller_of cs)) (chains_of limits G (suc m) (suc i))
  pub below_are : (i : ℕ) → i < count → get_or below i 0 ≡ length (chains_of limits G m (suc i))
  pub ranks_are : (i : ℕ) → i < count → (cs : List (ℕ × ℕ)) → Mem cs (chains_of limits G (suc m) (suc i))
      → get_or ranks (number_of limits G m (caller_of cs)) 0 ≡ rank (take m cs) (chains_of limits G m (suc i))
  pub start-rank : get_or ranks 0 0 ≡ 0

-- a state with its farthest caller dropped
abbrev pub dropped : ℕ → Spot → Spot
dropped m first = first
dropped m last = last
dropped m (spot i d cs) = spot i d (take m cs)

-- the rows say of each state with m + 1 callers what it is
pub record Says (G : Grammar) (m : ℕ) (rows : Six) : Type 0 where
  pub ahead : (p : ℕ) → p < length (spots limits G (suc m)) → get_or rows.ahead p 0 ≡ spot_ahead limits G (get_or (spots limits G (suc m)) p last)
  pub number : (p : ℕ) → p < length (spots limits G (suc m)) → get_or rows.number p 0 ≡ rule_at (get_or (spots limits G (suc m)) p last)
  pub member : (p : ℕ) → p < length (spots limits G (suc m)) → get_or rows.member p 0 ≡ member_of limits G m (get_or (spots limits G (suc m)) p last)
  pub target : (p : ℕ) → p < length (spots limits G (suc m)) → get_or rows.target p 0 ≡ target_of limits G m (get_or (spots limits G (suc m)) p last)
  pub after : (p : ℕ) → p < length (spots limits G (suc m)) → 1 ≤ spot_ahead limits G (get_or (spots limits G (suc m)) p last)
      → get_or rows.after p 0 ≡ number_of limits G (suc m) (spot_after limits G (get_or (spots limits G (suc m)) p last))
  pub down : (p : ℕ) → p < length (spots limits G (suc m)) → get_or rows.down p 0 ≡ number_of limits G m (dropped m (get_or (spots limits G (suc m)) p last))

-- ---- from one level to the next

-- the record of a grammar with these columns in place of its own: those that a level is written from, and those that it is sized by
abbrev pub written_from : Grammar → ℕ → ℕ → List ℕ → List ℕ → List ℕ → CheckedGrammar
written_from G n count lefts lengths codes = with_columns G n (record_of G).states count (record_of G).used lefts lengths codes

abbrev pub sized_by : Grammar → ℕ → ℕ → List ℕ → List ℕ → CheckedGrammar
sized_by G n count lefts lengths = written_from G n count lefts lengths (record_of G).codes

-- the row of codes ahead is that of the states with m callers
abbrev pub AheadOf : Grammar → ℕ → List ℕ → Type 0
AheadOf G m ahead = (p : ℕ) → p < length (spots limits G m) → get_or ahead p 0 ≡ spot_ahead limits G (get_or (spots limits G m) p last)

-- of each rule the number of its chains of m callers
abbrev pub WidthsOf : Grammar → ℕ → ℕ → List ℕ → Type 0
WidthsOf G m count widths = (i : ℕ) → i < count → get_or widths i 0 ≡ length (chains_of limits G m (suc i))

-- of each caller the rank of its chain with the farthest caller dropped
pub record RanksOf (G : Grammar) (m : ℕ) (ranks : List ℕ) : Type 0 where
  pub are : (i : ℕ) → i < length G.rules → (cs : List (ℕ × ℕ)) → Mem cs (chains_of limits G (suc m) (suc i))
      → get_or ranks (number_of limits G m (caller_of cs)) 0 ≡ rank (take m cs) (chains_of limits G m (suc i))
  pub start : get_or ranks 0 0 ≡ 0
  pub long : limits.max_states ≤ length ranks
  pub little : (c : ℕ) → get_or ranks c 0 ≤ limits.max_states

-- the states with m callers, sorted by their keys
pub record Cut (G : Grammar) (m n q : ℕ) (first callers : List ℕ) : Type 0 where
  pub nonterminals : n ≡ G.nonterminals
  pub states : q ≡ length (spots limits G m)
  pub few : q ≤ limits.max_states
  pub long : n + 2 < length first
  pub order : (a b : ℕ) → a ≤ b → b ≤ n + 2 → get_or first a 0 ≤ get_or first b 0
  pub inside : (b : ℕ) → b ≤ n + 2 → get_or first b 0 ≤ q
  pub before : (b : ℕ) → b < n → segment first callers b ≡ places (map (spot_ahead limits G) (spots limits G m)) (limits.nonterminal_base + b)
  pub start : segment first callers n ≡ 0 ∷ []
  pub apart : (j k : ℕ) → j < get_or first (n + 2) 0 → k < get_or first (n + 2) 0 → get_or callers j 0 ≡ get_or callers k 0 → j ≡ k
  pub size : length callers ≡ limits.max_states
  pub small : (k : ℕ) → get_or callers k 0 < limits.max_states

-- a grammar with a sentence, which of its rules are live, and its q states with m callers, of which the row has the codes ahead
pub record Sizable (G : Grammar) (m : ℕ) (g : CheckedGrammar) (live : List ℕ) (q : ℕ) (ahead : List ℕ) : Type 0 where
  pub well_formed : WellFormed limits G
  pub same : g ≡ record_of G
  pub sentence : is_live limits G 0 ≡ true
  pub some : Bool
  pub lives : Answers some live G
  pub states : q ≡ length (spots limits G m)
  pub few : q ≤ limits.max_states
  pub codes : AheadOf G m ahead

-- these sorted, and of each rule the number of its callers, and of them all the states with one caller more
pub record Sized (G : Grammar) (m n count : ℕ) (lefts lengths live : List ℕ) (q : ℕ) (first callers old widths : List ℕ) (states : ℕ) : Type 0 where
  pub cut : Cut G m n q first callers
  pub filled : Filled old widths count (width_at lefts live first)
  pub total : states ≡ start_of lengths widths count
  pub first-size : length first ≡ limits.max_nonterminals + 3
  pub widths_size : length widths ≡ limits.max_rules

-- a level with m callers, as the next is written from it
pub record Level (G : Grammar) (m : ℕ) (g : CheckedGrammar) (live : List ℕ) (q : ℕ) (ahead below ranks : List ℕ) : Type 0 where
  pub sizable : Sizable G m g live q ahead
  pub widths : WidthsOf G m g.count below
  pub ranked : RanksOf G m ranks
  pub room : start_of g.lengths below g.count ≤ limits.max_states

-- and the next: so many states, and where they are not too many, their rows
pub record Added (G : Grammar) (m : ℕ) (g : CheckedGrammar) (live : List ℕ) (states : ℕ) (ahead number member target after below ranks : List ℕ) : Type 0 where
  pub count : states ≡ length (spots limits G (suc m))
  pub says : states ≤ limits.max_states → (down : List ℕ) × Says G m (six ahead number member target after down)
  pub next : states ≤ limits.max_states → Level G (suc m) g live states ahead below ranks

-- the rows of the level with l + 1 callers, its states and those of the level below
pub record Stands (G : Grammar) (l states K : ℕ) (ahead number member target after : List ℕ) : Type 0 where
  pub count : states ≡ length (spots limits G (suc l))
  pub kinds : K ≡ length (spots limits G l)
  pub kinds-few : K ≤ limits.max_states
  pub down : List ℕ
  pub says : Says G l (six ahead number member target after down)

-- the level with m callers, m at least 1, stands; or some level up to it has too many states, and so has this one
pub record Reaches (G : Grammar) (m states K : ℕ) (ahead number member target after : List ℕ) : Type 0 where
  pub fits : states ≤ limits.max_states → (l : ℕ) → m ≡ suc l → Stands G l states K ahead number member target after
  pub many : limits.max_states < states → limits.max_states < length (spots limits G m)
