-- A module's grammar text joined to the robot's: lists, rules, text, and the refusals in their order.
-- Source: document 02, [10] ("the robot's lists first, then names the module adds, then the robot's rules, then those of the module that
-- are not already there"; "Faults of the robot's text come first, then .."). Names are compared as everywhere, by same_name. Assumes nothing.
use Rattle.std.specs.Prelude.{ℕ, Bool, not, List, [], ◌∷◌, ◌++◌, map, leb, length}
use Rattle.grammar.specs.Basics.{choose}
use Rattle.grammar.specs.Limits.{Limits}
use Rattle.grammar.specs.Grammar.{Rule}
use Rattle.grammar.specs.Table.{encode}
use Rattle.grammar.specs.Refusal.{Answer, done, refuse_unless, and_then, buffer_too_short, kinds_clash}
use Rattle.grammar.specs.TableCheck.{is_among}
use Rattle.text.specs.Names.{any, same_name}
use Rattle.text.specs.Read.{Source, symbol_names, number_of, code_of}
use Rattle.text.specs.Rules.{check_text, check_module}
use Rattle.text.specs.Print.{name_of, printed}

-- one of these names is among those
unfoldable pub meet : List (List ℕ) → List (List ℕ) → Bool
meet xs names = any (λ x. any (same_name x) names) xs

-- the names that are not among the others, in their order
unfoldable pub added : List (List ℕ) → List (List ℕ) → List (List ℕ)
added names [] = []
added names (x ∷ xs) = choose (any (same_name x) names) (added names xs) (x ∷ added names xs)

-- the rules that are not among the others, in their order
unfoldable pub added_rules : List Rule → List Rule → List Rule
added_rules rules [] = []
added_rules rules (r ∷ rs) = choose (is_among r rules) (added_rules rules rs) (r ∷ added_rules rules rs)

-- the robot's names first, then those that the module adds
abbrev pub joined_terminals : Source → Source → List (List ℕ)
joined_terminals robot addon = robot.terminals ++ added robot.terminals addon.terminals

abbrev pub joined_nonterminals : Source → Source → List (List ℕ)
joined_nonterminals robot addon = robot.nonterminals ++ added robot.nonterminals addon.nonterminals

-- 20 at the module's first line that declares a name which the robot's text declares as the other kind
unfoldable pub refuse_clash : {A : Type 0} → Source → Source → Answer A → Answer A
refuse_clash robot addon a =
    refuse_unless kinds_clash 1 (not (meet addon.terminals robot.nonterminals))
    (refuse_unless kinds_clash 2 (not (meet addon.nonterminals robot.terminals)) a)

module _ (L : Limits) where
  -- the code of the module's symbol among the joined names
  abbrev pub joined_code : Source → Source → ℕ → ℕ
  joined_code robot addon code =
      code_of L (length (joined_terminals robot addon))
      (number_of (joined_terminals robot addon ++ joined_nonterminals robot addon) (name_of L (length addon.terminals) (symbol_names addon) code))

  abbrev pub joined_rule : Source → Source → Rule → Rule
  joined_rule robot addon r =
      record { left = joined_code robot addon r.left; right = map (joined_code robot addon) r.right }

  -- the robot's rules, whose codes stay, then those of the module that are not already there
  unfoldable pub joined : Source → Source → Source
  joined robot addon = record {
    terminals = joined_terminals robot addon;
    nonterminals = joined_nonterminals robot addon;
    rules = robot.rules ++ added_rules robot.rules (map (joined_rule robot addon) addon.rules);
  }

  -- the joined text
  abbrev pub joined_text : Source → Source → List ℕ
  joined_text robot addon = printed L (joined robot addon)

  -- faults of the robot's text, of the module's text read alone, 20, then what the reader gives for the joined text
  unfoldable pub join_texts : List ℕ → List ℕ → Answer Source
  join_texts robot addon =
      and_then (check_text L robot) (λ r.
      and_then (check_module L addon) (λ m.
      refuse_clash r m (check_text L (joined_text r m))))

  -- then 14 if the row lent for the table, of this many entries, is too short
  unfoldable pub joined_table_into : ℕ → List ℕ → List ℕ → Answer Source
  joined_table_into entries robot addon =
      and_then (join_texts robot addon) (λ s. refuse_unless buffer_too_short 0 (leb (length (encode s.rules)) entries) (done s))

  -- the joined text, or 14 if the output, of this many bytes, is too short
  unfoldable pub joined_text_into : ℕ → List ℕ → List ℕ → Answer (List ℕ)
  joined_text_into bytes robot addon =
      and_then (join_texts robot addon) (λ s. refuse_unless buffer_too_short 0 (leb (length (printed L s)) bytes) (done (printed L s)))
