-- The automaton with m callers pinned on small grammars: its states in their order, what they open and close, and the refusals.
-- An edit of a chain, of the order of states, of a move's list or of a refusal in specs/Callers.antt and specs/CallerMoves.antt
-- that changes what they say of these grammars refuses one of the facts. Grammars that other crates pin too are public.
-- Assumes nothing.
use Prim.Native.Nat.{ℕ}
use mathlib.Core.Path.{◌≡◌, refl}
use mathlib.Core.List.{List, [], ◌∷◌}
use lib.ListN.{length}
use Rattle.grammar.specs.Basics.{each}
use Rattle.grammar.specs.Limits.{Limits, limits}
use Rattle.grammar.specs.Refusal.{Answer, done, refused, refuse_unless, and_then, too_many_states, no_sentence, too_many_callers}
use Rattle.grammar.specs.Table.{decode_up_to}
use Rattle.grammar.specs.TableCheck.{same_codes, is_among, declared_front, read_rule, next_rule, check_from, stored_table, check_table}
use Rattle.grammar.specs.Grammar.{Rule, Grammar, rule, state_count}
use Rattle.grammar.specs.Live.{has, has_all, concluded, waiting, rounds, nonterminals_of, productive, usable, reachable, has_sentence, is_live}
use Rattle.automaton.specs.Callers.{Spot, first, last, spot, up_to, items_from, same_items, place_of, items, code_at, items_before, chains, spots}
use Rattle.automaton.specs.Callers.{check_callers, check_with}
use Rattle.automaton.specs.CallerMoves.{spot_ahead, spot_after, live_rules, spot_openings, returns, spot_closings, moves_at, moves_with}

abbrev pub of : ℕ → List ℕ → Rule
of b w = record { left = b; right = w }

-- S → ; S → A a A; A →
abbrev pub small : Grammar
small = record { terminals = 1; nonterminals = 2; rules = of 32768 [] ∷ of 32768 (32769 ∷ 1 ∷ 32769 ∷ []) ∷ of 32769 [] ∷ [] }

-- S → b A c; S → b e d; S → A d; A → e
abbrev pub biology : Grammar
biology = record {
  terminals = 4;
  nonterminals = 2;
  rules = of 32768 (1 ∷ 32769 ∷ 2 ∷ []) ∷ of 32768 (1 ∷ 3 ∷ 4 ∷ []) ∷ of 32768 (32769 ∷ 4 ∷ []) ∷ of 32769 (3 ∷ []) ∷ [];
}

-- P → ; P → P K; K → take L vol; K → give L vol; K → repeat num P close; L → ch; L → L sep ch
abbrev pub commands : Grammar
commands = record {
  terminals = 8;
  nonterminals = 3;
  rules = of 32768 [] ∷ of 32768 (32768 ∷ 32769 ∷ []) ∷ of 32769 (1 ∷ 32770 ∷ 2 ∷ []) ∷ of 32769 (3 ∷ 32770 ∷ 2 ∷ []) ∷ of 32769 (4 ∷ 5 ∷ 32768 ∷ 6 ∷ [])
      ∷ of 32770 (7 ∷ []) ∷ of 32770 (32770 ∷ 8 ∷ 7 ∷ []) ∷ [];
}

-- S → C; S → A; S → a A; A → B; C → B; B → D; D → b: S → C stands before S → A, but C → B after A → B
abbrev pub nested : Grammar
nested = record {
  terminals = 2;
  nonterminals = 5;
  rules = of 32768 (32771 ∷ []) ∷ of 32768 (32769 ∷ []) ∷ of 32768 (1 ∷ 32769 ∷ []) ∷ of 32769 (32770 ∷ []) ∷ of 32771 (32770 ∷ []) ∷ of 32770 (32772 ∷ [])
      ∷ of 32772 (2 ∷ []) ∷ [];
}

-- S → A; B → A; A → a; S → A C; C → C: three rules that no sentence uses, two of them before A
abbrev pub stray : Grammar
stray = record {
  terminals = 1;
  nonterminals = 4;
  rules = of 32768 (32769 ∷ []) ∷ of 32770 (32769 ∷ []) ∷ of 32769 (1 ∷ []) ∷ of 32768 (32769 ∷ 32771 ∷ []) ∷ of 32771 (32771 ∷ []) ∷ [];
}

-- to unfold this is to unfold all that it uses
unfoldable pub states_of : Grammar → ℕ → List Spot
unfolding rule each has has_all concluded waiting rounds nonterminals_of productive usable reachable has_sentence is_live up_to items_from same_items items code_at items_before chains spots
states_of G m = spots limits G m

-- Q at m = 0, 1, 2
counts : (length (states_of small 0) ≡ 10) × (length (states_of small 1) ≡ 11) × (length (states_of small 2) ≡ 11)
    × (length (states_of biology 0) ≡ 17) × (length (states_of biology 1) ≡ 19) × (length (states_of biology 2) ≡ 19)
    × (length (states_of commands 0) ≡ 27) × (length (states_of commands 1) ≡ 47) × (length (states_of commands 2) ≡ 93)
    × (length (states_of nested 0) ≡ 19) × (length (states_of nested 1) ≡ 23) × (length (states_of nested 2) ≡ 27)
unfolding states_of
counts = (refl, refl, refl, refl, refl, refl, refl, refl, refl, refl, refl, refl)

-- ---- the states in their order

-- rule 0 has no callers, S's rules S' → ·S, and A's rules both places before A
small_one : states_of small 1
    ≡ first ∷ last ∷ spot 0 0 [] ∷ spot 0 1 [] ∷ spot 1 0 ((0, 0) ∷ []) ∷ spot 2 0 ((0, 0) ∷ []) ∷ spot 2 1 ((0, 0) ∷ []) ∷ spot 2 2 ((0, 0) ∷ [])
    ∷ spot 2 3 ((0, 0) ∷ []) ∷ spot 3 0 ((2, 0) ∷ []) ∷ spot 3 0 ((2, 2) ∷ []) ∷ []
unfolding states_of
small_one = refl

-- by item, then by callers from the nearest: B's chain through A → ·B comes first, though S → ·C stands before S → ·A and S → a·A
nested_two : states_of nested 2
    ≡ first ∷ last ∷ spot 0 0 [] ∷ spot 0 1 [] ∷ spot 1 0 ((0, 0) ∷ []) ∷ spot 1 1 ((0, 0) ∷ []) ∷ spot 2 0 ((0, 0) ∷ []) ∷ spot 2 1 ((0, 0) ∷ [])
    ∷ spot 3 0 ((0, 0) ∷ []) ∷ spot 3 1 ((0, 0) ∷ []) ∷ spot 3 2 ((0, 0) ∷ []) ∷ spot 4 0 ((2, 0) ∷ (0, 0) ∷ []) ∷ spot 4 0 ((3, 1) ∷ (0, 0) ∷ [])
    ∷ spot 4 1 ((2, 0) ∷ (0, 0) ∷ []) ∷ spot 4 1 ((3, 1) ∷ (0, 0) ∷ []) ∷ spot 5 0 ((1, 0) ∷ (0, 0) ∷ []) ∷ spot 5 1 ((1, 0) ∷ (0, 0) ∷ [])
    ∷ spot 6 0 ((4, 0) ∷ (2, 0) ∷ []) ∷ spot 6 0 ((4, 0) ∷ (3, 1) ∷ []) ∷ spot 6 0 ((5, 0) ∷ (1, 0) ∷ []) ∷ spot 6 1 ((4, 0) ∷ (2, 0) ∷ [])
    ∷ spot 6 1 ((4, 0) ∷ (3, 1) ∷ []) ∷ spot 6 1 ((5, 0) ∷ (1, 0) ∷ []) ∷ spot 7 0 ((6, 0) ∷ (4, 0) ∷ []) ∷ spot 7 0 ((6, 0) ∷ (5, 0) ∷ [])
    ∷ spot 7 1 ((6, 0) ∷ (4, 0) ∷ []) ∷ spot 7 1 ((6, 0) ∷ (5, 0) ∷ []) ∷ []
unfolding states_of
nested_two = refl

-- without callers every item is a state, with them only those of live rules, and no rule that is not live calls
stray-counts : (length (states_of stray 0) ≡ 15) × (length (states_of stray 2) ≡ 8)
unfolding states_of
stray-counts = (refl, refl)

stray-one : states_of stray 1
    ≡ first ∷ last ∷ spot 0 0 [] ∷ spot 0 1 [] ∷ spot 1 0 ((0, 0) ∷ []) ∷ spot 1 1 ((0, 0) ∷ []) ∷ spot 3 0 ((1, 0) ∷ []) ∷ spot 3 1 ((1, 0) ∷ []) ∷ []
unfolding states_of
stray-one = refl

-- ---- the moves, by states' numbers

-- what a state opens and closes, each with the state it leads to, and the state after a shift
opened : Grammar → ℕ → ℕ → List (ℕ × ℕ)
unfolding states_of place_of live_rules spot_openings
opened G m p = (moves_at limits G m).openings p

closed : Grammar → ℕ → ℕ → List (ℕ × ℕ)
unfolding states_of place_of spot_after returns spot_closings
closed G m p = (moves_at limits G m).closings p

shifted : Grammar → ℕ → ℕ → ℕ × ℕ
unfolding states_of place_of spot_ahead spot_after
shifted G m p = ((moves_at limits G m).ahead p, (moves_at limits G m).after p)

-- S' → ·S opens S's rules; S → b·A c and S → ·A d open A → ·e, each its own where one caller is remembered
biology-opens : (opened biology 0 2 ≡ (1, 4) ∷ (2, 8) ∷ (3, 12) ∷ []) × (opened biology 0 5 ≡ (4, 15) ∷ []) × (opened biology 0 12 ≡ (4, 15) ∷ [])
    × (opened biology 1 0 ≡ (0, 2) ∷ []) × (opened biology 1 2 ≡ (1, 4) ∷ (2, 8) ∷ (3, 12) ∷ []) × (opened biology 1 5 ≡ (4, 15) ∷ [])
    × (opened biology 1 12 ≡ (4, 16) ∷ [])
unfolding opened
biology-opens = (refl, refl, refl, refl, refl, refl, refl)

-- the callers stay when the dot passes e: 15 goes to 17 and 16 to 18
biology-shifts : (shifted biology 0 15 ≡ (3, 16)) × (shifted biology 1 15 ≡ (3, 17)) × (shifted biology 1 16 ≡ (3, 18))
unfolding shifted
biology-shifts = (refl, refl, refl)

-- without callers A → e· closes to both places past an A, with one to that of its caller, whose own caller is filled in
biology-closes : (closed biology 0 16 ≡ (4, 6) ∷ (4, 13) ∷ []) × (closed biology 1 3 ≡ (0, 1) ∷ []) × (closed biology 1 14 ≡ (3, 3) ∷ [])
    × (closed biology 1 17 ≡ (4, 6) ∷ []) × (closed biology 1 18 ≡ (4, 13) ∷ []) × (closed biology 2 18 ≡ (4, 13) ∷ [])
unfolding closed
biology-closes = (refl, refl, refl, refl, refl, refl)

-- where farther callers are possible each is filled in: B → D· by A → ·B returns to A → B· by S → ·A, and by S → a·A; with two
-- callers D → b· does the same one rule farther down
nested-closes : (closed nested 1 19 ≡ (6, 13) ∷ (6, 14) ∷ []) × (closed nested 1 20 ≡ (6, 16) ∷ []) × (closed nested 1 22 ≡ (7, 19) ∷ (7, 20) ∷ [])
    × (closed nested 2 20 ≡ (6, 13) ∷ []) × (closed nested 2 21 ≡ (6, 14) ∷ []) × (closed nested 2 25 ≡ (7, 20) ∷ (7, 21) ∷ [])
    × (closed nested 2 26 ≡ (7, 22) ∷ [])
unfolding closed
nested-closes = (refl, refl, refl, refl, refl, refl, refl)

-- the moves with two callers have the states with two callers
with_two : ((moves_with limits nested 1).states ≡ 23) × ((moves_with limits nested 2).states ≡ 27)
unfolding states_of
with_two = (refl, refl)

-- ---- refusals

-- the limits in force, but for the states
abbrev up_to_states : ℕ → Limits
up_to_states q = record { max_terminals = limits.max_terminals; nonterminal_base = limits.nonterminal_base; max_nonterminals = limits.max_nonterminals; max_length = limits.max_length; max_rules = limits.max_rules; max_states = q; max_text = limits.max_text }

unfoldable pub check : ℕ → ℕ → ℕ → List ℕ → ℕ → Answer Grammar
unfolding states_of decode_up_to state_count same_codes is_among declared_front read_rule next_rule check_from stored_table check_table check_callers check_with refuse_unless and_then
check q t n table m = check_with (up_to_states q) t n table m

-- the biology grammar's table, and that of S → S
abbrev biology_table : List ℕ
biology_table = 32768 ∷ 3 ∷ 1 ∷ 32769 ∷ 2 ∷ 32768 ∷ 3 ∷ 1 ∷ 3 ∷ 4 ∷ 32768 ∷ 2 ∷ 32769 ∷ 4 ∷ 32769 ∷ 1 ∷ 3 ∷ []

abbrev loop_table : List ℕ
loop_table = 32768 ∷ 1 ∷ 32768 ∷ []

-- 17 states without callers and 19 with one: 8 stands at 0, and without callers at the offset of the rule, before 21; 19 too
refusals : (check 19 4 2 biology_table 2 ≡ done biology) × (check 19 4 2 biology_table 3 ≡ refused too_many_callers 0)
    × (check 18 4 2 biology_table 0 ≡ done biology) × (check 18 4 2 biology_table 1 ≡ refused too_many_states 0)
    × (check 18 4 2 biology_table 3 ≡ refused too_many_callers 0) × (check 16 4 2 biology_table 3 ≡ refused too_many_states 14)
    × (check 19 0 1 loop_table 3 ≡ refused no_sentence 0)
unfolding check
refusals = (refl, refl, refl, refl, refl, refl, refl)
