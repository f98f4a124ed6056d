-- The causes with which the names that are lent to the writer are refused, those of a text before its rules are counted, and those of a
-- module's text.
-- Assumes nothing.
use Prim.Native.Nat.{ℕ, zero, suc, ◌+◌}
use mathlib.Core.Path.{◌≡◌, refl}
use mathlib.Core.Bool.{Bool, true}
use mathlib.Core.List.{List, [], ◌∷◌, ◌++◌}
use mathlib.Core.Option.{Option, none, some}
use Rattle.grammar.specs.Limits.{Limits}
use Rattle.grammar.specs.Refusal.{Answer, malformed, name_unknown, name_repeated, out_of_range, rule_too_long, rule_repeated, too_many_states, cause_number}
use lib.ListN.{length}
use Rattle.grammar.specs.Grammar.{Rule}
use Rattle.grammar.proofs.Causes.{CausedBy, result, cause, unless, next, up_to}
use Rattle.grammar.specs.declared.Cause.{Cause}
use Rattle.text.specs.Read.{refuse_none, declaration, rule_line, rule_lines, whole_line, read_lines, read_text}
use Rattle.text.specs.Rules.{admit, check_module}
use Rattle.text.specs.Print.{gather}

module _ {among : ℕ → Bool} where
  pub or_none : {A B : Type 0} (c : Cause) (p : ℕ) (o : Option A) (go : A → Answer B) → among (cause_number c) ≡ true → ((a : A) → CausedBy among (go a)) → CausedBy among (refuse_none c p o go)
  unfolding refuse_none
  or_none c p none go h k = cause h
  or_none c p (some a) go h k = k a

  -- 16 and no other
  pub gather_causes : among (cause_number malformed) ≡ true → (bytes starts lengths : List ℕ) (i m : ℕ) → CausedBy among (gather bytes starts lengths i m)
  unfolding gather
  gather_causes h bytes starts lengths i zero = result
  gather_causes h bytes starts lengths i (suc m) =
      or_none malformed _ _ _ h (λ x. unless malformed _ _ _ h (next _ _ (gather_causes h bytes starts lengths (suc i) m) (λ xs. result)))

  pub whole-line : {B : Type 0} (at : ℕ) (ps : List (List ℕ)) (go : List ℕ → List (List ℕ) → Answer B) → among (cause_number malformed) ≡ true
      → ((p : List ℕ) (qs : List (List ℕ)) → CausedBy among (go p qs)) → CausedBy among (whole_line at ps go)
  unfolding whole_line
  whole-line at [] go h k = cause h
  whole-line at (p ∷ []) go h k = cause h
  whole-line at (p ∷ q ∷ qs) go h k = k p (q ∷ qs)

-- 16, 18, 1
declaration_causes : (at k lo hi : ℕ) (earlier : List (List ℕ)) (line : List ℕ) → CausedBy (up_to (cause_number name_repeated)) (declaration at k lo hi earlier line)
unfolding declaration
declaration_causes at k lo hi earlier line =
    or_none malformed _ _ _ refl (λ v. unless malformed _ _ _ refl (unless name_repeated _ _ _ refl (unless out_of_range _ _ _ refl result)))

module _ (L : Limits) where
  -- 16, 17, 4
  rule_causes : (at t : ℕ) (names : List (List ℕ)) (line : List ℕ) → CausedBy (up_to (cause_number name_repeated)) (rule_line L at t names line)
  unfolding rule_line
  rule_causes at t names line =
      or_none malformed _ _ _ refl (λ v.
      or_none malformed _ _ _ refl (λ s. unless malformed _ _ _ refl (unless name_unknown _ _ _ refl (unless rule_too_long _ _ _ refl result))))

  rules_causes : (at t : ℕ) (names ps : List (List ℕ)) → CausedBy (up_to (cause_number name_repeated)) (rule_lines L at t names ps)
  unfolding rule_lines
  rules_causes at t names [] = cause refl
  rules_causes at t names (p ∷ []) = unless malformed _ _ _ refl result
  rules_causes at t names (p ∷ q ∷ qs) = next _ _ (rule_causes at t names p) (λ r. next _ _ (rules_causes (suc at) t names (q ∷ qs)) (λ rs. result))

  -- a text that is not read is refused with none of the causes past 18
  pub text_causes : (text : List ℕ) → CausedBy (up_to (cause_number name_repeated)) (read_text L text)
  unfolding read_text read_lines
  text_causes text =
      unless malformed _ _ _ refl
      (whole-line 1 _ _ refl (λ first more.
      next _ _ (declaration_causes _ _ _ _ _ first) (λ ts.
      whole-line 2 more _ refl (λ second rest.
      next _ _ (declaration_causes _ _ _ _ _ second) (λ ns.
      next _ _ (rules_causes 3 _ (ts ++ ns) rest) (λ rs. result))))))

  -- 7, 6, 8
  pub admit_causes : (m : ℕ) (earlier : List Rule) (at : ℕ) (rs : List Rule) → CausedBy (up_to (cause_number name_repeated)) (admit L m earlier at rs)
  unfolding admit
  admit_causes m earlier at [] = result
  admit_causes zero earlier at (r ∷ rs) = cause refl
  admit_causes (suc m) earlier at (r ∷ rs) =
      unless rule_repeated _ _ _ refl (unless too_many_states _ _ _ refl (admit_causes m (earlier ++ (r ∷ [])) (at + 2 + length r.right) rs))

  -- a module's text is never refused with 19
  pub module_causes : (text : List ℕ) → CausedBy (up_to (cause_number name_repeated)) (check_module L text)
  unfolding check_module
  module_causes text = next _ _ (text_causes text) (λ s. next _ _ (admit_causes L.max_rules [] 0 s.rules) (λ rules. result))
