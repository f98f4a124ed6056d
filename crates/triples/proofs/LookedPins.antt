-- Small closed cases at the byte limits: how many successors the search looks at.
-- An edit of these definitions in specs/ fails here.
-- Assumes nothing.
use mathlib.Core.Path.{◌≡◌, refl}
use mathlib.Core.List.{List, [], ◌∷◌}
use Prim.Native.Nat.{ℕ, ◌+◌}
use Rattle.grammar.specs.Grammar.{state_count}
use Rattle.automaton.specs.AllMoves.{numbers, leaving, all_moves}
use Rattle.automaton.proofs.AllMovePins.{moves, live}
use Rattle.triples.specs.Records.{left_alone, right_alone, both_shift, both_close, choices, insert, ordered, records}
use Rattle.triples.specs.Smallest.{is_element, push, push_all, explore, successors, smallest}
use Rattle.triples.specs.Looked.{total, looked_at, looked_limit}

-- each element counts, as often as it stands there
total_two : total (λ i. i + 1) (3 ∷ 3 ∷ []) ≡ 8
unfolding total
total_two = refl

-- to unfold these is to unfold all that they use
looked : ℕ → ℕ → List ℕ → ℕ
unfolding live state_count left_alone right_alone both_shift both_close choices insert ordered records is_element push push_all explore successors smallest total looked_at
looked t n table = looked_at (moves t n table)

limit : ℕ → ℕ → List ℕ → ℕ
unfolding live state_count numbers leaving all_moves
limit t n table = looked_limit (moves t n table)

-- S→a: 6 moves of 6 states, so no more than 6 × 6 + 2 × 6 × 6
one-looked : looked 1 1 (128 ∷ 1 ∷ 1 ∷ []) ≡ 14
unfolding looked
one-looked = refl

one_limit : limit 1 1 (128 ∷ 1 ∷ 1 ∷ []) ≡ 108
unfolding limit
one_limit = refl

-- S→S | a
unit_or_a-looked : looked 1 1 (128 ∷ 1 ∷ 128 ∷ 128 ∷ 1 ∷ 1 ∷ []) ≡ 55
unfolding looked
unit_or_a-looked = refl

-- S→aSa | a
palindromes-looked : looked 1 1 (128 ∷ 3 ∷ 1 ∷ 128 ∷ 1 ∷ 128 ∷ 1 ∷ 1 ∷ []) ≡ 140
unfolding looked
palindromes-looked = refl

-- S→ | S S: 239 if nonterminals were shifted in layer 1
twice-looked : looked 0 1 (128 ∷ 0 ∷ 128 ∷ 2 ∷ 128 ∷ 128 ∷ []) ≡ 235
unfolding looked
twice-looked = refl

-- S→A | B, A→, B→
two_empty-looked : looked 0 3 (128 ∷ 1 ∷ 129 ∷ 128 ∷ 1 ∷ 130 ∷ 129 ∷ 0 ∷ 130 ∷ 0 ∷ []) ≡ 85
unfolding looked
two_empty-looked = refl

-- P→ | P K, K→take L vol | give L vol | repeat num P close, L→ch | L sep ch
commands-looked : looked 8 3 (128 ∷ 0 ∷ 128 ∷ 2 ∷ 128 ∷ 129 ∷ 129 ∷ 3 ∷ 1 ∷ 130 ∷ 2 ∷ 129 ∷ 3 ∷ 3 ∷ 130 ∷ 2 ∷ 129 ∷ 4 ∷ 4 ∷ 5 ∷ 128 ∷ 6 ∷ 130 ∷ 1 ∷ 7 ∷ 130 ∷ 3 ∷ 130 ∷ 8 ∷ 7 ∷ []) ≡ 163
unfolding looked
commands-looked = refl
