-- The automaton with m callers on the grammars of document 02: states, size of the smallest set, and whether (1,1,1) is reached.
-- Its states, moves and refusals by themselves are pinned in automaton's proofs/CallerPins.antt. Assumes nothing.
use mathlib.Core.Path.{◌≡◌, refl}
use mathlib.Core.Bool.{Bool, true, false}
use mathlib.Core.List.{[], ◌∷◌}
use Prim.Native.Nat.{ℕ}
use lib.ListN.{length}
use Rattle.grammar.specs.Limits.{limits}
use Rattle.grammar.specs.Grammar.{Grammar}
use Rattle.automaton.specs.Callers.{place_of, spots}
use Rattle.automaton.specs.CallerMoves.{spot_ahead, spot_after, live_rules, spot_openings, returns, spot_closings, moves_at}
use Rattle.automaton.proofs.CallerPins.{of, small, biology, commands, states_of}
use Rattle.triples.specs.Index.{index}
use Rattle.triples.specs.Records.{left_alone, right_alone, both_shift, both_close, choices, insert, ordered, records}
use Rattle.triples.specs.Smallest.{is_element, push, push_all, explore, successors, smallest}

figures : Grammar → ℕ → ℕ × ℕ × Bool
unfolding states_of place_of spot_ahead spot_after live_rules spot_openings returns spot_closings left_alone right_alone both_shift both_close choices insert ordered records is_element push push_all explore successors smallest
figures G m =
    let Q = length (spots limits G m) in
    let l = smallest (moves_at limits G m) in
    (Q, length l, is_element (index Q 1 1 1) l)

-- S → a; S → A; A → A; B → b; S → C b; C → : rules that no sentence uses have numbers at m = 0 only
abbrev partly : Grammar
partly = record {
  terminals = 2;
  nonterminals = 4;
  rules = of 32768 (1 ∷ []) ∷ of 32768 (32769 ∷ []) ∷ of 32769 (32769 ∷ []) ∷ of 32770 (2 ∷ []) ∷ of 32768 (32771 ∷ 2 ∷ []) ∷ of 32771 [] ∷ [];
}

all_figures : (figures small 0 ≡ (10, 43, true)) × (figures small 1 ≡ (11, 36, false))
    × (figures biology 0 ≡ (17, 72, true)) × (figures biology 1 ≡ (19, 58, false)) × (figures biology 2 ≡ (19, 58, false))
    × (figures partly 0 ≡ (16, 31, false)) × (figures partly 1 ≡ (10, 31, false)) × (figures partly 2 ≡ (10, 31, false))
unfolding figures
all_figures = (refl, refl, refl, refl, refl, refl, refl, refl)

command_figures : figures commands 0 ≡ (27, 90, false)
unfolding figures
command_figures = refl
