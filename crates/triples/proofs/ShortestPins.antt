-- Small closed cases at the byte limits: which of two rows comes before the other, and shortest witnesses.
-- An edit of these definitions in specs/ fails here.
-- Assumes nothing.
use mathlib.Core.Path.{◌≡◌, refl}
use mathlib.Core.Logic.{inl, inr}
use mathlib.Core.List.{List, [], ◌∷◌}
use Prim.Native.Nat.{ℕ}
use native.Mathlib.Omega.{arith}
use Rattle.grammar.specs.Grammar.{state_count}
use Rattle.automaton.proofs.AllMovePins.{moves, live}
use Rattle.triples.specs.Records.{left_alone, right_alone, both_shift, both_close, choices, insert, ordered, records}
use Rattle.triples.specs.Smallest.{successors}
use Rattle.triples.specs.Shortest.{ComesBefore, first_row, row_of, fewest, shortest}

-- fewer entries come first, whatever they are
fewer-first : ComesBefore (0 ∷ 9 ∷ []) (0 ∷ 1 ∷ 1 ∷ [])
fewer-first = inl (omega arith)

-- of as many the smaller index where they first differ, whatever follows
smaller-first : ComesBefore (0 ∷ 2 ∷ 9 ∷ []) (0 ∷ 3 ∷ 1 ∷ [])
smaller-first = inr (refl, inr (refl, inl (omega arith)))

-- no row comes before itself
not_itself : ComesBefore (0 ∷ 2 ∷ []) (0 ∷ 2 ∷ []) → ⊥
not_itself h = elim h [
  | inl l ↦ absurd (omega arith)
  | inr (e, inl l) ↦ absurd (omega arith)
  | inr (e, inr (d, inl l)) ↦ absurd (omega arith)
  | inr (e, inr (d, inr (c, x))) ↦ x
]

-- to unfold this is to unfold all that it uses
row : ℕ → ℕ → List ℕ → List ℕ
unfolding live state_count left_alone right_alone both_shift both_close choices insert ordered records successors first_row row_of fewest shortest
row t n table = shortest (moves t n table)

-- S→S |
unit_row : row 0 1 (128 ∷ 1 ∷ 128 ∷ 128 ∷ 0 ∷ []) ≡ 0 ∷ 2 ∷ 4 ∷ 18 ∷ 26 ∷ 59 ∷ 57 ∷ []
unfolding row
unit_row = refl

-- S→S | a
unit_or_a-row : row 1 1 (128 ∷ 1 ∷ 128 ∷ 128 ∷ 1 ∷ 1 ∷ []) ≡ 0 ∷ 2 ∷ 4 ∷ 20 ∷ 29 ∷ 75 ∷ 73 ∷ []
unfolding row
unit_or_a-row = refl

-- S→aSa | a
palindromes-row : row 1 1 (128 ∷ 3 ∷ 1 ∷ 128 ∷ 1 ∷ 128 ∷ 1 ∷ 1 ∷ []) ≡ 0 ∷ 2 ∷ 4 ∷ 24 ∷ 84 ∷ 95 ∷ 98 ∷ 168 ∷ 179 ∷ 139 ∷ 119 ∷ 113 ∷ 111 ∷ []
unfolding row
palindromes-row = refl

-- S→A | B, A→, B→
two_empty-row : row 0 3 (128 ∷ 1 ∷ 129 ∷ 128 ∷ 1 ∷ 130 ∷ 129 ∷ 0 ∷ 130 ∷ 0 ∷ []) ≡ 0 ∷ 2 ∷ 4 ∷ 8 ∷ 28 ∷ 68 ∷ 98 ∷ 175 ∷ 135 ∷ 115 ∷ 113 ∷ 111 ∷ []
unfolding row
two_empty-row = refl
