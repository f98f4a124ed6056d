-- Small closed cases at the byte limits: all moves of a grammar's position automaton written out, and their number.
-- An edit of these definitions in specs/ fails here.
-- Assumes nothing.
use mathlib.Core.Path.{◌≡◌, refl}
use mathlib.Core.List.{List, [], ◌∷◌}
use Prim.Native.Nat.{ℕ}
use Rattle.grammar.specs.Basics.{each}
use Rattle.grammar.specs.Limits.{byte_limits}
use Rattle.grammar.specs.Grammar.{rule, state_count}
use Rattle.grammar.specs.Table.{decode_up_to, decode}
use Rattle.grammar.specs.Live.{has, has_all, concluded, waiting, rounds, nonterminals_of, productive, usable, reachable, has_sentence, is_live}
use Rattle.automaton.specs.Moves.{Moves}
use Rattle.automaton.specs.PositionMoves.{moves_of, shown, aheads, rules_of, completed, past, ahead_row, openings, closings}
use Rattle.automaton.specs.Strings.{opening, closing, symbol}
use Rattle.automaton.specs.AllMoves.{numbers, Moved, moved, leaving, all_moves, move_count}

abbrev pub moves : ℕ → ℕ → List ℕ → Moves
moves t n table = moves_of byte_limits (record { terminals = t; nonterminals = n; rules = decode table })

-- to unfold one of these is to unfold all that it uses
unfoldable pub live : ℕ → ℕ → List ℕ → Moves
unfolding decode_up_to rule each has has_all concluded waiting rounds nonterminals_of productive usable reachable has_sentence is_live shown aheads rules_of completed past ahead_row openings closings
live t n table = moves t n table

all : ℕ → ℕ → List ℕ → List Moved
unfolding live state_count numbers leaving all_moves
all t n table = all_moves (moves t n table)

number : ℕ → ℕ → List ℕ → ℕ
unfolding all
number t n table = move_count (moves t n table)

-- S→a: state 0 opens 0, state 2 opens 1 and shifts S, state 3 closes 0, state 4 shifts a, state 5 closes 1
one-moves : all 1 1 (128 ∷ 1 ∷ 1 ∷ []) ≡ moved 0 (opening 0) 2
    ∷ moved 2 (opening 1) 4
    ∷ moved 2 (symbol 128) 3
    ∷ moved 3 (closing 0) 1
    ∷ moved 4 (symbol 1) 5
    ∷ moved 5 (closing 1) 3
    ∷ []
unfolding all
one-moves = refl

one_number : number 1 1 (128 ∷ 1 ∷ 1 ∷ []) ≡ 6
unfolding number
one_number = refl

-- S→S | a
unit_or_a_number : number 1 1 (128 ∷ 1 ∷ 128 ∷ 128 ∷ 1 ∷ 1 ∷ []) ≡ 13
unfolding number
unit_or_a_number = refl

-- S→aSa | a
palindromes_number : number 1 1 (128 ∷ 3 ∷ 1 ∷ 128 ∷ 1 ∷ 128 ∷ 1 ∷ 1 ∷ []) ≡ 15
unfolding number
palindromes_number = refl

-- S→A | B, A→, B→
two_empty_number : number 0 3 (128 ∷ 1 ∷ 129 ∷ 128 ∷ 1 ∷ 130 ∷ 129 ∷ 0 ∷ 130 ∷ 0 ∷ []) ≡ 13
unfolding number
two_empty_number = refl

-- S→a; S→A; A→A: rules that no sentence uses have no moves
dead_number : number 1 2 (128 ∷ 1 ∷ 1 ∷ 128 ∷ 1 ∷ 129 ∷ 129 ∷ 1 ∷ 129 ∷ []) ≡ 6
unfolding number
dead_number = refl

-- P→ | P K, K→take L vol | give L vol | repeat num P close, L→ch | L sep ch
commands_number : number 8 3 (128 ∷ 0 ∷ 128 ∷ 2 ∷ 128 ∷ 129 ∷ 129 ∷ 3 ∷ 1 ∷ 130 ∷ 2 ∷ 129 ∷ 3 ∷ 3 ∷ 130 ∷ 2 ∷ 129 ∷ 4 ∷ 4 ∷ 5 ∷ 128 ∷ 6 ∷ 130 ∷ 1 ∷ 7 ∷ 130 ∷ 3 ∷ 130 ∷ 8 ∷ 7 ∷ []) ≡ 49
unfolding number
commands_number = refl
