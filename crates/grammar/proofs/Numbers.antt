-- The numbers of the causes: 1 to 23, in the order in which the documents have them. Assumes nothing.
use Prim.Native.Nat.{ℕ}
use mathlib.Core.Path.{◌≡◌, refl}
use mathlib.Core.List.{List, [], ◌∷◌, map}
use Rattle.grammar.specs.Refusal.{cause_number, out_of_range, truncated, left_undeclared, rule_too_long, code_undeclared, rule_repeated, too_many_rules, too_many_states, certificate_length, spare_bit, start_missing, end_present, successor_missing, buffer_too_short, witness_wrong, malformed, name_unknown, name_repeated, no_sentence, kinds_clash, too_many_callers, row_wrong, not_present}
use Rattle.grammar.specs.declared.Cause.{Cause}

pub numbers : map cause_number (out_of_range ∷ truncated ∷ left_undeclared ∷ rule_too_long ∷ code_undeclared ∷ rule_repeated ∷ too_many_rules ∷ too_many_states ∷ certificate_length ∷ spare_bit ∷ start_missing ∷ end_present ∷ successor_missing ∷ buffer_too_short ∷ witness_wrong ∷ malformed ∷ name_unknown ∷ name_repeated ∷ no_sentence ∷ kinds_clash ∷ too_many_callers ∷ row_wrong ∷ not_present ∷ [])
    ≡ 1 ∷ 2 ∷ 3 ∷ 4 ∷ 5 ∷ 6 ∷ 7 ∷ 8 ∷ 9 ∷ 10 ∷ 11 ∷ 12 ∷ 13 ∷ 14 ∷ 15 ∷ 16 ∷ 17 ∷ 18 ∷ 19 ∷ 20 ∷ 21 ∷ 22 ∷ 23 ∷ []
numbers = refl
