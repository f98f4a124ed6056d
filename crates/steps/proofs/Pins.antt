-- Small closed cases of `nth_step` at the byte limits, on S → a and on S → S; S → : the records of a triple in their order, one
-- past the last, triples out of range, and a fault of the table.
-- Assumes nothing.
use Prim.Native.Nat.{ℕ}
use mathlib.Core.Path.{◌≡◌, refl}
use mathlib.Core.List.{List, [], ◌∷◌}
use mathlib.Core.Option.{Option, none, some}
use Rattle.grammar.specs.Limits.{byte_limits}
use Rattle.grammar.specs.Grammar.{state_count, rule}
use Rattle.grammar.specs.Table.{decode_up_to}
use Rattle.grammar.specs.Refusal.{Answer, done, refused, refuse_unless, and_then, truncated}
use Rattle.grammar.specs.TableCheck.{same_codes, is_among, declared_front, read_rule, next_rule, check_from, stored_table, check_table}
use Rattle.grammar.specs.Basics.{each}
use Rattle.grammar.specs.Live.{has, has_all, concluded, waiting, rounds, nonterminals_of, productive, usable, reachable, has_sentence, is_live}
use Rattle.automaton.specs.PositionMoves.{shown, aheads, rules_of, completed, past, ahead_row, openings, closings}
use Rattle.automaton.specs.Callers.{up_to, items_from, items, spots, check_callers, check_with}
use Rattle.triples.specs.declared.Move.TheVariants.{Opening, Closing, Symbol, Still}
use Rattle.triples.specs.declared.Step.{Step}
use Rattle.triples.specs.Records.{step}
use Rattle.triples.specs.Records.{left_alone, right_alone, both_shift, both_close, choices, insert, ordered, records}
use Rattle.steps.specs.Steps.{nth, nth_step}

-- to unfold one of these is to unfold all that it uses
checked : ℕ → List ℕ → ℕ → ℕ → ℕ → ℕ → Answer (Option Step)
unfolding decode_up_to state_count same_codes is_among declared_front read_rule next_rule check_from stored_table check_table refuse_unless and_then
    up_to items_from items spots check_callers check_with nth_step
checked t table f p q k = nth_step byte_limits t 1 table 0 f p q k

lived : ℕ → List ℕ → ℕ → ℕ → ℕ → ℕ → Answer (Option Step)
unfolding checked rule each has has_all concluded waiting rounds nonterminals_of productive usable reachable has_sentence is_live
lived t table f p q k = checked t table f p q k

answer : ℕ → List ℕ → ℕ → ℕ → ℕ → ℕ → Answer (Option Step)
unfolding lived each shown aheads rules_of completed past ahead_row openings closings left_alone right_alone both_shift both_close choices insert ordered records nth
answer t table f p q k = lived t table f p q k

-- S → a
abbrev single : ℕ → ℕ → ℕ → ℕ → Answer (Option Step)
single f p q k = answer 1 (128 ∷ 1 ∷ 1 ∷ []) f p q k

-- S → S; S →
abbrev circle : ℕ → ℕ → ℕ → ℕ → Answer (Option Step)
circle f p q k = answer 0 (128 ∷ 1 ∷ 128 ∷ 128 ∷ 0 ∷ []) f p q k

-- in ascending order of the next index
ascending : (single 0 2 2 0 ≡ done (some (step 0 2 4 Still (Opening 1))))
    × (single 0 2 2 1 ≡ done (some (step 0 3 3 (Symbol 128) (Symbol 128))))
    × (single 0 2 2 2 ≡ done (some (step 0 4 2 (Opening 1) Still)))
    × (single 0 2 2 3 ≡ done none)
unfolding answer
ascending = (refl, refl, refl, refl)

-- a closing beside a terminal enters layer 1
parting : (single 0 4 5 0 ≡ done (some (step 1 4 3 Still (Closing 1)))) × (single 0 4 5 1 ≡ done none)
unfolding answer
parting = (refl, refl)

-- records that lead back to the triple stand first, left before right
back-first : (circle 0 4 4 0 ≡ done (some (step 0 4 4 (Opening 1) Still)))
    × (circle 0 4 4 1 ≡ done (some (step 0 4 4 Still (Opening 1))))
    × (circle 0 4 4 2 ≡ done (some (step 0 4 6 Still (Opening 2))))
    × (circle 0 4 4 3 ≡ done (some (step 0 5 5 (Symbol 128) (Symbol 128))))
    × (circle 0 4 4 4 ≡ done (some (step 0 6 4 (Opening 2) Still)))
    × (circle 0 4 4 5 ≡ done none)
    × (circle 1 5 4 0 ≡ done (some (step 1 5 4 (Closing 1) Still)))
    × (circle 1 5 4 1 ≡ done (some (step 1 5 4 Still (Opening 1))))
    × (circle 1 5 4 2 ≡ done (some (step 1 3 4 (Closing 1) Still)))
    × (circle 1 5 4 3 ≡ done (some (step 1 5 6 Still (Opening 2))))
    × (circle 1 5 4 4 ≡ done none)
unfolding answer
back-first = (refl, refl, refl, refl, refl, refl, refl, refl, refl, refl, refl)

-- a state of Q and a layer above 1 have no record
out_of_range_lem : (single 0 6 0 0 ≡ done none) × (single 0 0 6 0 ≡ done none) × (single 2 0 0 0 ≡ done none)
    × (single 0 0 0 0 ≡ done (some (step 0 0 2 Still (Opening 0))))
unfolding answer
out_of_range_lem = (refl, refl, refl, refl)

-- a fault of the table comes before a triple out of range
fault_first : answer 1 (128 ∷ []) 2 6 6 0 ≡ refused truncated 0
unfolding answer
fault_first = refl
