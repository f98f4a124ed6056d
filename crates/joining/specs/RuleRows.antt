-- What the functions over one rule of the module are lent, and what they tell. Assumes nothing.
use Rattle.std.specs.Prelude.{ℕ, ◌+◌, ◌≤◌, ◌≡◌, List, [], ◌∷◌, length, take}
use Rattle.std.proofs.Math.Seq.{paste}
use Rattle.grammar.specs.Limits.{limits}
use Rattle.grammar.specs.Grammar.{Rule}
use Rattle.grammar.specs.Table.{encode}
use Rattle.joining.specs.Naming.{recoded_rule, RuleRecoding}

-- a rule's entries, its codes with their numbers, and a row with room for them from a place on
pub record RuleReady (terminals nonterminals entries row : List ℕ) (at : ℕ) : Type 0 where
  pub rule : Rule
  pub entries_are : entries ≡ encode (rule ∷ [])
  pub recoding : RuleRecoding terminals nonterminals rule
  pub room : at + length entries ≤ length row

-- from the place on the row has the rule recoded, and is otherwise as it was
abbrev pub RulePut : List ℕ → List ℕ → List ℕ → List ℕ → ℕ → List ℕ → Type 0
RulePut terminals nonterminals entries row at row' =
    (rule : Rule) → entries ≡ encode (rule ∷ []) → row' ≡ paste row at (encode (recoded_rule limits terminals nonterminals rule ∷ [])) (length entries)

-- up to the end the row is whole rules; a rule of length k stands at a place
pub record RulesBefore (row : List ℕ) (end at k : ℕ) : Type 0 where
  pub rules : List Rule
  pub front : take end row ≡ encode rules
  pub inside : end ≤ length row
  pub whole : at + 2 + k ≤ length row
