-- The module's rules with their joined codes, and which of them are added, one rule more. Assumes nothing.
use Prim.Native.Nat.{ℕ, ◌+◌, ◌-◌, ◌<◌}
use mathlib.Core.Path.{◌≡◌, refl, ap, ap₂, sym, ◌∙◌}
use mathlib.Core.Bool.{Bool, true, false}
use mathlib.Core.List.{List, [], ◌∷◌, ◌++◌, map}
use mathlib.Core.Logic.{◌⊎◌, inl, inr}
use native.Mathlib.Omega.{arith}
use borrow.Author.Tests.{lt-ltb, le-ltb}
use lib.ListN.{length, get_or}
use Rattle.grammar.specs.Basics.{choose, Mem, here, there}
use Rattle.grammar.specs.Limits.{Limits}
use Rattle.grammar.specs.Grammar.{Terminal, Nonterminal, Rule, start}
use Rattle.grammar.specs.TableCheck.{is_among}
use Rattle.text.specs.Read.{Source}
use Rattle.text.proofs.WellNamed.{RuleFits, WellNamedSource}
use Rattle.modules.specs.Joined.{meet, added_rules, joined_code, joined_rule}
use Rattle.joining.specs.Numbers.{numbered}
use Rattle.joining.specs.Naming.{recoded}
use Rattle.joining.proofs.Recoded.{terminal-code, nonterminal-code}

-- one rule more: it is added unless it is among the robot's
pub added-rules_snoc : (rules xs : List Rule) (r : Rule) → added_rules rules (xs ++ (r ∷ [])) ≡ added_rules rules xs ++ choose (is_among r rules) [] (r ∷ [])
unfolding added_rules
added-rules_snoc rules [] r = refl
added-rules_snoc rules (x ∷ xs) r = go (is_among x rules) (added-rules_snoc rules xs r)
  where
    go : (c : Bool) → added_rules rules (xs ++ (r ∷ [])) ≡ added_rules rules xs ++ choose (is_among r rules) [] (r ∷ [])
        → choose c (added_rules rules (xs ++ (r ∷ []))) (x ∷ added_rules rules (xs ++ (r ∷ [])))
        ≡ choose c (added_rules rules xs) (x ∷ added_rules rules xs) ++ choose (is_among r rules) [] (r ∷ [])
    go true e = e
    go false e = ap (λ (l : List Rule). x ∷ l) e

module _ (L : Limits) (robot addon : Source) (wm : WellNamedSource L addon) (second : meet addon.nonterminals robot.terminals ≡ false)
    (low : length addon.terminals < start L) where
  -- the numbers counted off
  abbrev ts : List ℕ
  ts = numbered robot.terminals (length robot.terminals) addon.terminals

  abbrev ns : List ℕ
  ns = numbered robot.nonterminals (length robot.nonterminals) addon.nonterminals

  -- a declared code of the module, recoded
  pub code-recoded : (c : ℕ) → Terminal (length addon.terminals) c ⊎ Nonterminal L (length addon.nonterminals) c → joined_code L robot addon c ≡ recoded L ts ns c
  code-recoded c (inl h) =
      terminal-code L robot addon wm second low c h
      ∙ sym (ap (λ (b : Bool). choose b (get_or ts (c - 1) 0 + 1) (start L + get_or ns (c - start L) 0)) (lt-ltb c (start L) (omega (arith, h.1, low))))
  code-recoded c (inr h) =
      nonterminal-code L robot addon wm second low c h
      ∙ sym (ap (λ (b : Bool). choose b (get_or ts (c - 1) 0 + 1) (start L + get_or ns (c - start L) 0)) (le-ltb c (start L) h.0))

  codes-recoded : (cs : List ℕ) → ((c : ℕ) → Mem c cs → Terminal (length addon.terminals) c ⊎ Nonterminal L (length addon.nonterminals) c)
      → map (joined_code L robot addon) cs ≡ map (recoded L ts ns) cs
  codes-recoded [] f = refl
  codes-recoded (c ∷ cs) f = ap₂ (λ (x : ℕ) (xs : List ℕ). x ∷ xs) (code-recoded c (f c here)) (codes-recoded cs (λ c m. f c (there m)))

  -- a rule of the module is joined by recoding its codes
  pub rule-recoded : (r : Rule) → RuleFits L (length addon.terminals) (length addon.nonterminals) r
      → joined_rule L robot addon r ≡ record { left = recoded L ts ns r.left; right = map (recoded L ts ns) r.right }
  rule-recoded r f = λ i. record { left = code-recoded r.left (inr f.left) i; right = codes-recoded r.right f.codes i }
