-- A letter's entry tells the letter, where its number is below 2^16, as all of a grammar within the limits are. Assumes nothing.
use Prim.Native.Nat.{ℕ, ◌+◌, ◌*◌, ◌/◌, ◌%◌, ◌≤◌, ◌<◌}
use mathlib.Core.Path.{◌≡◌, refl, ap, ap₂, ◌∙◌}
use mathlib.Core.Logic.{inl, inr}
use mathlib.Core.List.{List, [], ◌∷◌, map}
use native.Mathlib.Omega.{arith}
use native.Mathlib.Nat.{mul-add-div_right, mul-add-mod_self_right, div-eq_of_lt, mod-eq_of_lt}
use Rattle.grammar.specs.Limits.{limits}
use Rattle.automaton.specs.Strings.{Letter, opening, closing, symbol}
use Rattle.readings.specs.Readings.{Valid, AllValid}
use Rattle.readings.specs.Letters.{kind_unit, letter_number, of_kind, letter_from}

-- kind and number of an entry
kind-of : (k x : ℕ) → x < kind_unit → (k * kind_unit + x) / kind_unit ≡ k
kind-of k x h = mul-add-div_right (omega arith) k x ∙ ap (λ (z : ℕ). k + z) (div-eq_of_lt h) ∙ omega arith

number_of_lem : (k x : ℕ) → x < kind_unit → (k * kind_unit + x) % kind_unit ≡ x
number_of_lem k x h = mul-add-mod_self_right k kind_unit x ∙ mod-eq_of_lt h

entry-of : (k x : ℕ) → x < kind_unit → letter_from (k * kind_unit + x) ≡ of_kind k x
entry-of k x h = ap₂ (λ (a b : ℕ). of_kind a b) (kind-of k x h) (number_of_lem k x h)

module _ (t n count : ℕ) (few : t ≤ limits.max_terminals) (some : n ≤ limits.max_nonterminals) (short : count ≤ limits.max_rules) where
  pub letter_again : (l : Letter) → Valid limits t n count l → letter_from (letter_number l) ≡ l
  letter_again (opening i) h = entry-of 1 i (omega arith)
  letter_again (closing i) h = entry-of 2 i (omega arith)
  letter_again (symbol x) (inl h) = entry-of 3 x (omega (arith, h.1))
  letter_again (symbol x) (inr h) = entry-of 3 x (omega (arith, h.1))

  pub letters-again : (u : List Letter) → AllValid limits t n count u → map letter_from (map letter_number u) ≡ u
  letters-again [] h = refl
  letters-again (l ∷ u) h = ap₂ (λ (l : Letter) (u : List Letter). l ∷ u) (letter_again l h.0) (letters-again u h.1)
