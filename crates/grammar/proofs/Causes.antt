-- Which causes the refusals of a chain of tests have; those of a table up to 8 are 1 to 8. Assumes nothing.
use Prim.Native.Nat.{ℕ, zero, suc, ◌+◌}
use mathlib.Core.Path.{◌≡◌, refl}
use mathlib.Core.Bool.{Bool, true, false, ◌&&◌}
use mathlib.Core.List.{List, [], ◌∷◌, ◌++◌}
use lib.Dec.{leb}
use lib.ListN.{length}
use Rattle.grammar.specs.Basics.{choose}
use Rattle.grammar.specs.Limits.{Limits}
use Rattle.grammar.specs.Grammar.{Rule}
use Rattle.grammar.specs.Table.{rule_at}
use Rattle.grammar.specs.Refusal.{Answer, done, refused, refuse_unless, and_then, out_of_range, truncated, left_undeclared, rule_too_long, code_undeclared, rule_repeated, too_many_rules, too_many_states, cause_number}
use Rattle.grammar.specs.TableCheck.{read_rule, next_rule, check_from, stored_table}
use Rattle.grammar.specs.declared.Cause.{Cause}

-- a result, or a refusal with one of these causes
pub data CausedBy (among : ℕ → Bool) {A : Type 0} : Answer A → Type 0 where
  result : {a : A} → CausedBy among (done a)
  cause : {c : Cause} {p : ℕ} → among (cause_number c) ≡ true → CausedBy among (refused c p)

module _ {among : ℕ → Bool} where
  pub unless : {A : Type 0} (c : Cause) (p : ℕ) (b : Bool) (o : Answer A) → among (cause_number c) ≡ true → CausedBy among o → CausedBy among (refuse_unless c p b o)
  unfolding refuse_unless
  unless c p true o h k = k
  unless c p false o h k = cause h

  pub next : {A B : Type 0} (o : Answer A) (go : A → Answer B) → CausedBy among o → ((a : A) → CausedBy among (go a)) → CausedBy among (and_then o go)
  unfolding and_then
  next (done a) go h k = k a
  next (refused c p) go (cause h) k = cause h

  either : {A : Type 0} (b : Bool) (x y : Answer A) → CausedBy among x → CausedBy among y → CausedBy among (choose b x y)
  either true x y h k = h
  either false x y h k = k

-- the causes 1 to this one
abbrev pub up_to : ℕ → ℕ → Bool
up_to last c = leb 1 c && leb c last

-- other causes among which these are
pub caused_more : {A : Type 0} {few more : ℕ → Bool} → ((c : ℕ) → few c ≡ true → more c ≡ true) → (o : Answer A) → CausedBy few o → CausedBy more o
caused_more f (done a) result = result
caused_more f (refused c p) (cause h) = cause (f (cause_number c) h)

module _ (L : Limits) (t n : ℕ) (table : List ℕ) where
  read_causes : (at : ℕ) → CausedBy (up_to 8) (read_rule L t n table at)
  unfolding read_rule
  read_causes at =
      unless truncated _ _ _ refl
      (unless left_undeclared _ _ _ refl
      (unless rule_too_long _ _ _ refl
      (unless truncated _ _ _ refl
      (unless code_undeclared _ _ _ refl result))))

  pub next_causes : (earlier : List Rule) (at : ℕ) → CausedBy (up_to 8) (next_rule L t n table earlier at)
  unfolding next_rule
  next_causes earlier at = next _ _ (read_causes at) (λ k. unless rule_repeated _ _ _ refl (unless too_many_states _ _ _ refl result))

  check_causes : (m : ℕ) (earlier : List Rule) (at : ℕ) → CausedBy (up_to 8) (check_from L m t n table earlier at)
  unfolding check_from
  check_causes zero earlier at = unless too_many_rules _ _ _ refl result
  check_causes (suc m) earlier at =
      either (leb (length table) at) (done earlier)
      (and_then (next_rule L t n table earlier at) (λ k. check_from L m t n table (earlier ++ (rule_at table at k ∷ [])) (at + 2 + k)))
      result
      (next _ _ (next_causes earlier at) (λ k. check_causes m (earlier ++ (rule_at table at k ∷ [])) (at + 2 + k)))

  pub stored_causes : CausedBy (up_to 8) (stored_table L t n table)
  unfolding stored_table
  stored_causes = unless out_of_range _ _ _ refl (next _ _ (check_causes L.max_rules [] 0) (λ rules. result))
