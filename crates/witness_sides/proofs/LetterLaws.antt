-- A move's letter as an entry, put after the letters of a row. Assumes nothing.
use Prim.Native.Nat.{ℕ, ◌+◌, ◌<◌}
use mathlib.Core.Path.{◌≡◌, refl, sym, ap, ◌∙◌}
use Rattle.std.specs.Prelude.{Some, None}
use mathlib.Core.List.{List, [], ◌∷◌, ◌++◌, map, append-nil, map-append}
use native.Mathlib.Omega.{arith}
use native.Mathlib.Numerals.{add-one}
use lib.ListN.{length, take, set, length-append, length-set, length-map}
use lib.Seq.{take-suc-set}
use Rattle.automaton.specs.Strings.{Letter}
use Rattle.triples.specs.Sides.{letters}
use Rattle.triples.specs.declared.Move.{Move}
use Rattle.triples.specs.declared.Move.TheVariants.{Opening, Closing, Symbol, Still}
use Rattle.readings.specs.Letters.{letter_number}
use Rattle.witness_sides.specs.Clauses.{move_entry, Appended}

-- no letter, or one
none-put : (m : Move) → None ≡ move_entry m → letters m ≡ []
none-put (Opening i) e = absurd (cc)
none-put (Closing i) e = absurd (cc)
none-put (Symbol x) e = absurd (cc)
none-put Still e = refl

one-put : (m : Move) (x : ℕ) → Some x ≡ move_entry m → map letter_number (letters m) ≡ x ∷ []
one-put (Opening i) x e = cc
one-put (Closing i) x e = cc
one-put (Symbol s) x e = cc
one-put Still x e = absurd (cc)

-- so the row stays, or has one entry more
pub stays_put : (m : Move) (count : ℕ) (row : List ℕ) → None ≡ move_entry m → Appended m count row count row
stays_put m count row e u w =
    let z : u ++ letters m ≡ u = ap (λ (v : List Letter). u ++ v) (none-put m e) ∙ append-nil u in
    rw z w

pub puts_one : (m : Move) (count x : ℕ) (row : List ℕ) → count < length row → Some x ≡ move_entry m
    → Appended m count row (count + 1) (set row count x)
puts_one m count x row h e u w =
    let o = one-put m x e in
    let k : length (letters m) ≡ 1 = sym (length-map (letters m) letter_number) ∙ ap length o in
    record {
      long = omega (arith, length-append u (letters m), w.long);
      front =
          ap (λ (i : ℕ). take i (set row count x)) (add-one count) ∙ take-suc-set row count x h
          ∙ ap (λ (v : List ℕ). v ++ (x ∷ [])) w.front
          ∙ sym (map-append letter_number u (letters m) ∙ ap (λ (v : List ℕ). map letter_number u ++ v) o);
      fits = omega (arith, length-set row count x);
    }
