-- What the functions over the names and rules of two texts are lent, and what they tell. Assumes nothing.
use Rattle.std.specs.Prelude.{Option, None, Some, ℕ, ◌+◌, ◌-◌, ◌≤◌, ◌<◌, ◌≡◌, true, false, not, List, ◌++◌, map, ltb, leb, length, take, drop, get_or}
use Rattle.grammar.specs.Basics.{choose, over, Mem}
use Rattle.grammar.specs.Limits.{Limits, limits}
use Rattle.grammar.specs.Grammar.{Rule, start}
use Rattle.grammar.specs.Table.{encode}
use Rattle.grammar.specs.Refusal.{Answer, refused, refuse_unless, out_of_range, kinds_clash}
use Rattle.text.specs.Names.{has_double}
use Rattle.text.specs.Read.{Source}
use Rattle.text.specs.Spelled.{spelled}
use Rattle.lexicon.specs.Tree.{Spans, Lexicon}
use Rattle.text_read.specs.Values.{all_names}
use Rattle.modules.specs.Joined.{meet, added, added_rules}
use Rattle.joining.specs.Numbers.{numbered}
use Rattle.joining.specs.declared.Counts.{Counts}
use Rattle.joining.specs.declared.Counts.TheVariants.{Names, Fault}

-- ---- names of one kind

-- the tree of the robot's names, few enough for entries of 32 bits, names of the module, and a row with an entry for each
pub record Numbering (robot starts lengths links addon firsts sizes numbers : List ℕ) : Type 0 where
  pub lexicon : Lexicon robot starts lengths links
  pub addon_spans : Spans addon firsts sizes
  pub few : length starts + length firsts < 4294967296
  pub room : length firsts ≤ length numbers

-- names of one kind of the robot, all different; names of the module of that kind, with an entry for each, and of the other kind
pub record Kind (robot starts lengths addon firsts sizes others widths numbers : List ℕ) : Type 0 where
  pub robot_spans : Spans robot starts lengths
  pub once : has_double (spelled robot starts lengths) ≡ false
  pub robot-few : length starts ≤ all_names
  pub addon_spans : Spans addon firsts sizes
  pub addon-few : length firsts ≤ all_names
  pub other_spans : Spans addon others widths
  pub room : length firsts ≤ length numbers

-- names of the robot, of the module, and the module's of the other kind: none where these clash, or how many there are together, and
-- their numbers
abbrev pub KindTold : List (List ℕ) → List (List ℕ) → List (List ℕ) → List ℕ → List ℕ → Option ℕ → Type 0
KindTold names xs others numbers numbers' None = meet others names ≡ true
KindTold names xs others numbers numbers' (Some k) =
    (meet others names ≡ false) × (k ≡ length (names ++ added names xs)) × (numbers' ≡ over (numbered names (length names) xs) numbers)

-- ---- both kinds: the first t names of the robot and u of the module are terminals

pub record BothNamed (robot starts lengths : List ℕ) (t : ℕ) (addon firsts sizes : List ℕ) (u : ℕ) (terminals nonterminals : List ℕ) : Type 0 where
  pub robot-terminals : t ≤ length starts
  pub addon-terminals : u ≤ length firsts
  pub robot_paired : length starts ≡ length lengths
  pub addon_paired : length firsts ≡ length sizes
  pub first : Kind robot (take t starts) (take t lengths) addon (take u firsts) (take u sizes) (drop u firsts) (drop u sizes) terminals
  pub second : Kind robot (drop t starts) (drop t lengths) addon (drop u firsts) (drop u sizes) (take u firsts) (take u sizes) nonterminals

-- 20 at 1 and at 2, then 1 at 1 and at 2
unfoldable pub refuse_names : {A : Type 0} → List (List ℕ) → List (List ℕ) → List (List ℕ) → List (List ℕ) → Answer A → Answer A
refuse_names rt rn mt mn a =
    refuse_unless kinds_clash 1 (not (meet mt rn))
    (refuse_unless kinds_clash 2 (not (meet mn rt))
    (refuse_unless out_of_range 1 (leb (length (rt ++ added rt mt)) limits.max_terminals)
    (refuse_unless out_of_range 2 (leb (length (rn ++ added rn mn)) limits.max_nonterminals) a)))

-- no fault: how many names there are of each kind, and the rows begin with the numbers of the module's
pub record NamesCounted (rt rn mt mn : List (List ℕ)) (terminals nonterminals terminals' nonterminals' : List ℕ) (a b : ℕ) : Type 0 where
  pub first_clear : meet mt rn ≡ false
  pub second_clear : meet mn rt ≡ false
  pub terminals_are : a ≡ length (rt ++ added rt mt)
  pub nonterminals_are : b ≡ length (rn ++ added rn mn)
  pub terminals-most : a ≤ limits.max_terminals
  pub nonterminals-most : b ≤ limits.max_nonterminals
  pub terminals-row : terminals' ≡ over (numbered rt (length rt) mt) terminals
  pub nonterminals-row : nonterminals' ≡ over (numbered rn (length rn) mn) nonterminals

abbrev pub CountsTold : List (List ℕ) → List (List ℕ) → List (List ℕ) → List (List ℕ) → List ℕ → List ℕ → List ℕ → List ℕ → Counts → Type 0
CountsTold rt rn mt mn terminals nonterminals terminals' nonterminals' (Fault cause at) = (a : Answer Source) → refuse_names rt rn mt mn a ≡ refused cause at
CountsTold rt rn mt mn terminals nonterminals terminals' nonterminals' (Names a b) =
    NamesCounted rt rn mt mn terminals nonterminals terminals' nonterminals' a b

-- ---- codes and rules

-- a code of the module by the numbers counted off for its terminals and its nonterminals
abbrev pub recoded : Limits → List ℕ → List ℕ → ℕ → ℕ
recoded L terminals nonterminals code =
    choose (ltb code (start L)) (get_or terminals (code - 1) 0 + 1) (start L + get_or nonterminals (code - start L) 0)

-- a rule likewise
abbrev pub recoded_rule : Limits → List ℕ → List ℕ → Rule → Rule
recoded_rule L terminals nonterminals r =
    record { left = recoded L terminals nonterminals r.left; right = map (recoded L terminals nonterminals) r.right }

-- a code that has a number, and numbers within the limits
pub record Recoding (terminals nonterminals : List ℕ) (code : ℕ) : Type 0 where
  pub low : 1 ≤ code
  pub terminal : code < start limits → code ≤ length terminals
  pub nonterminal : start limits ≤ code → code < start limits + length nonterminals
  pub terminals-few : (i : ℕ) → get_or terminals i 0 < limits.max_terminals
  pub nonterminals-few : (i : ℕ) → get_or nonterminals i 0 < limits.max_nonterminals

-- all of a row's codes are so
abbrev pub AllRecoding : List ℕ → List ℕ → List ℕ → Type 0
AllRecoding terminals nonterminals codes = (i : ℕ) → i < length codes → Recoding terminals nonterminals (get_or codes i 0)

-- a rule's codes are so, and it is not too long
pub record RuleRecoding (terminals nonterminals : List ℕ) (r : Rule) : Type 0 where
  pub left : Recoding terminals nonterminals r.left
  pub right : AllRecoding terminals nonterminals r.right
  pub few : length r.right ≤ limits.max_length

-- the module's table with its numbers, and a row that begins with the robot's table and has room for both
pub record RulesReady (table terminals nonterminals row : List ℕ) (end : ℕ) : Type 0 where
  pub rules : List Rule
  pub table_is : table ≡ encode rules
  pub recoding : (r : Rule) → Mem r rules → RuleRecoding terminals nonterminals r
  pub robot : List Rule
  pub front : take end row ≡ encode robot
  pub room : end + length table ≤ length row

-- up to r the row has the robot's rules, then those of the module that are not among them
pub record RulesPut (table terminals nonterminals row : List ℕ) (end : ℕ) (row' : List ℕ) (r : ℕ) : Type 0 where
  pub put : (rules robot : List Rule) → table ≡ encode rules → take end row ≡ encode robot
      → take r row' ≡ encode (robot ++ added_rules robot (map (recoded_rule limits terminals nonterminals) rules))
  pub inside : r ≤ length row'
