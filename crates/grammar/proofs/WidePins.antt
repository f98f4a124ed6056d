-- Small closed cases of the table check at the limits in force, document 02's [8]: tables on both sides of each number.
-- Pins.antt has every test and the order of the refusals, at the byte limits.
-- An edit of a limit in force fails here.
-- Assumes nothing.
use mathlib.Core.Path.{◌≡◌, refl}
use mathlib.Core.List.{List, [], ◌∷◌, ◌++◌}
use Prim.Native.Nat.{ℕ, zero, suc, ◌+◌}
use lib.ListN.{replicate}
use Rattle.grammar.specs.Limits.{limits}
use Rattle.grammar.specs.Grammar.{Rule, Grammar, state_count}
use Rattle.grammar.specs.Table.{encode}
use Rattle.grammar.specs.Refusal.{Answer, done, refused, refuse_unless, and_then, out_of_range, truncated, left_undeclared, rule_too_long, code_undeclared, too_many_rules, too_many_states}
use Rattle.grammar.specs.TableCheck.{same_codes, is_among, declared_front, read_rule, next_rule, check_from, stored_table}

abbrev rule : ℕ → List ℕ → Rule
rule x w = record { left = x; right = w }

-- m rules with one right side, of the nonterminals x, x + 1 and so on
rules : ℕ → ℕ → List ℕ → List Rule
rules zero x w = []
rules (suc m) x w = rule x w ∷ rules m (x + 1) w

abbrev grammar : ℕ → ℕ → List Rule → Grammar
grammar t n rs = record { terminals = t; nonterminals = n; rules = rs }

-- to unfold this is to unfold all that it uses
check : ℕ → ℕ → List ℕ → Answer Grammar
unfolding stored_table check_from next_rule read_rule declared_front is_among same_codes state_count refuse_unless and_then encode rules
check t n table = stored_table limits t n table

-- the longest text, which no test here uses
longest : limits.max_text ≡ 262144
longest = refl

-- 1: t 2,000 and n 2,000 pass with their first and last codes; t 2,001, n 0, n 2,001
cause_1 : (check 2000 2000 (34767 ∷ 4 ∷ 1 ∷ 2000 ∷ 32768 ∷ 34767 ∷ [])
    ≡ done (grammar 2000 2000 (rule 34767 (1 ∷ 2000 ∷ 32768 ∷ 34767 ∷ []) ∷ [])))
    × (check 2001 1 [] ≡ refused out_of_range 0)
    × (check 0 0 [] ≡ refused out_of_range 0)
    × (check 0 2001 [] ≡ refused out_of_range 0)
unfolding check
cause_1 = (refl, refl, refl, refl)

-- 2: one entry, which is two bytes
cause_2 : check 1 1 (32768 ∷ []) ≡ refused truncated 0
unfolding check
cause_2 = refl

-- 3: the codes 2,000, 2,001, 32,767 and 34,768 on the left, at the rule, with the largest t and n
cause_3 : (check 2000 2000 (2000 ∷ 0 ∷ []) ≡ refused left_undeclared 0)
    × (check 2000 2000 (2001 ∷ 0 ∷ []) ≡ refused left_undeclared 0)
    × (check 2000 2000 (32767 ∷ 0 ∷ []) ≡ refused left_undeclared 0)
    × (check 2000 2000 (34767 ∷ 0 ∷ 34768 ∷ 0 ∷ []) ≡ refused left_undeclared 2)
unfolding check
cause_3 = (refl, refl, refl, refl)

-- 4: k 12 passes; k 13, and a length whose low byte is 12
cause_4 : (check 1 1 (32768 ∷ 12 ∷ replicate 12 1) ≡ done (grammar 1 1 (rule 32768 (replicate 12 1) ∷ [])))
    × (check 1 1 (32768 ∷ 13 ∷ replicate 13 1) ≡ refused rule_too_long 0)
    × (check 1 1 (32768 ∷ 268 ∷ replicate 12 1) ≡ refused rule_too_long 0)
unfolding check
cause_4 = (refl, refl, refl)

-- 5: the codes 2,001, 32,767 and 34,768 on the right, at the code, with the largest t and n
cause_5 : (check 2000 2000 (32768 ∷ 2 ∷ 2000 ∷ 2001 ∷ []) ≡ refused code_undeclared 3)
    × (check 2000 2000 (32768 ∷ 2 ∷ 2000 ∷ 32767 ∷ []) ≡ refused code_undeclared 3)
    × (check 2000 2000 (32768 ∷ 2 ∷ 34767 ∷ 34768 ∷ []) ≡ refused code_undeclared 3)
unfolding check
cause_5 = (refl, refl, refl)

-- 7: 400 rules pass; a 401st, at its offset
cause_7 : (check 0 2000 (encode (rules 400 32768 [])) ≡ done (grammar 0 2000 (rules 400 32768 [])))
    × (check 0 2000 (encode (rules 401 32768 [])) ≡ refused too_many_rules 800)
unfolding check
cause_7 = (refl, refl)

-- 8: Q 1,024 passes; 1,025, at its rule
cause_8 : (check 1 2000 (encode (rules 78 32768 (replicate 12 1)) ++ (32846 ∷ 5 ∷ replicate 5 1))
    ≡ done (grammar 1 2000 (rules 78 32768 (replicate 12 1) ++ (rule 32846 (replicate 5 1) ∷ []))))
    × (check 1 2000 (encode (rules 78 32768 (replicate 12 1)) ++ (32846 ∷ 6 ∷ replicate 6 1)) ≡ refused too_many_states 1092)
unfolding check
cause_8 = (refl, refl)
