-- What the reader's functions tell of rule lines.
-- Names are looked up among those that two rows of starts and lengths spell in the text.
-- Assumes nothing.
use Rattle.std.specs.Prelude.{ℕ, ◌+◌, ◌*◌, ◌≤◌, ◌<◌, ◌≡◌, Bool, true, ◌&&◌, List, [], ◌∷◌, ◌++◌, map, ltb, leb, length, take, drop, get_or, MatchOption}
use Rattle.std.specs.Prelude as P
use Rattle.std.proofs.Math.Option.{Option, some}
use Rattle.grammar.specs.Basics.{choose}
use Rattle.grammar.specs.Limits.{limits}
use Rattle.grammar.specs.Grammar.{Rule}
use Rattle.grammar.specs.Table.{encode}
use Rattle.grammar.specs.Refusal.{Answer, done, refused, refuse_unless, rule_too_long, malformed, name_unknown}
use Rattle.text.specs.Pieces.{split_on}
use Rattle.text.specs.Names.{all, is_name}
use Rattle.text.specs.Read.{refuse_none, Sides, sides_of, number_of, is_known, code_of, rule_of}
use Rattle.lexicon.specs.Tree.{Lexicon}
use Rattle.text_read.specs.Values.{smaller}
use Rattle.text_read.specs.declared.Shape.{Shape}
use Rattle.text_read.specs.declared.Kept.{Kept}
use Rattle.text_read.specs.declared.Kept.TheVariants.{Entries, Fault}

-- ---- the definition of a rule's line, in steps

-- sides and well formed names: 16; then the rest
unfoldable pub shaped : ℕ → Option Sides → (Sides → Answer Rule) → Answer Rule
shaped at o go = refuse_none malformed at o (λ s. refuse_unless malformed at (is_name s.head && all is_name s.body) (go s))

-- then 17, 4
unfoldable pub known_rule : ℕ → ℕ → List (List ℕ) → Sides → Answer Rule
known_rule at t names s =
    refuse_unless name_unknown at (is_known t names s.head && all (is_known 0 names) s.body)
    (refuse_unless rule_too_long at (leb (length s.body) 12)
    (done (rule_of limits t names s)))

-- the value of a rule's line
unfoldable pub rule_value : ℕ → ℕ → List (List ℕ) → List ℕ → Answer Rule
rule_value at t names v = shaped at (sides_of (split_on 58 v)) (known_rule at t names)

-- ---- its shape

-- the sides of a value, all names well formed: the left name ends at the colon, and so many names follow
pub record ShapeAt (v : List ℕ) (colon count : ℕ) : Type 0 where
  pub sides : Sides
  pub cut : sides_of (split_on 58 v) ≡ some sides
  pub named : is_name sides.head && all is_name sides.body ≡ true
  pub inside : colon < length v
  pub head : sides.head ≡ take colon v
  pub body : split_on 32 (drop (colon + 1) v) ≡ [] ∷ sides.body
  pub counts : count ≡ length sides.body

-- the shape of a value; none where it is malformed
abbrev pub ShapeTold : List ℕ → P.Option Shape → Type 0
ShapeTold v r = MatchOption r ((at : ℕ) (go : Sides → Answer Rule) → shaped at (sides_of (split_on 58 v)) go ≡ refused malformed at)
    (λ s. ShapeAt v s.colon s.count)

-- ---- its entries

-- the codes of names
unfoldable pub codes_of : ℕ → List (List ℕ) → List (List ℕ) → List ℕ
codes_of t names xs = map (λ x. code_of limits t (number_of names x)) xs

-- what follows a rule's colon: nothing, or a space first. The codes of its names go into a row from entry `at` on
pub record CodesFit (r text starts lengths links : List ℕ) (t : ℕ) (row : List ℕ) (at : ℕ) : Type 0 where
  pub led : 0 < length r → get_or r 0 0 ≡ 32
  pub lexicon : Lexicon text starts lengths links
  pub few : t ≤ limits.max_terminals
  pub most : length starts ≤ t + limits.max_nonterminals
  pub near : at ≤ length row + 2

-- the names of a right side are looked up: whether all are known, and if so their codes, where the row has room for them
pub record CodesTaken (t : ℕ) (names body : List (List ℕ)) (at : ℕ) (row row' : List ℕ) (b : Bool) : Type 0 where
  pub answer : b ≡ all (is_known 0 names) body
  pub front : take at row' ≡ take at row
  pub codes : b ≡ true → at + length body ≤ length row → take (at + length body) row' ≡ take at row ++ codes_of t names body

-- ---- what is kept of the rules: the first ones, one more than a grammar has

abbrev pub kept_rules : ℕ
kept_rules = limits.max_rules + 1

-- the entries of so many rules
abbrev pub kept_entries : ℕ
kept_entries = kept_rules * (limits.max_length + 2)

-- what is kept of a rule after k others
unfoldable pub kept : ℕ → Rule → List Rule
kept k r = choose (ltb k kept_rules) (r ∷ []) []

-- the row for the table has `end` entries in use after k rules; a line of so many bytes follows
pub record LineReady (text starts lengths links : List ℕ) (t : ℕ) (row : List ℕ) (k end bytes : ℕ) : Type 0 where
  pub lexicon : Lexicon text starts lengths links
  pub few : t ≤ limits.max_terminals
  pub most : length starts ≤ t + limits.max_nonterminals
  pub enough : smaller (length text) kept_entries ≤ length row
  pub near : end ≤ 14 * k
  pub fits : end + bytes ≤ length text
  pub inside : end ≤ length row

-- the rule is read, and what is kept of it, at most an entry for each byte, stands in the row, which has `next` entries in use
pub record RuleKept (o : Answer Rule) (k end bytes : ℕ) (row row' : List ℕ) (next : ℕ) : Type 0 where
  pub rule : Rule
  pub read : o ≡ done rule
  pub used : next ≡ end + length (encode (kept k rule))
  pub front : take next row' ≡ take end row ++ encode (kept k rule)
  pub most : next ≤ end + 14
  pub behind : next ≤ end + bytes
  pub inside : next ≤ length row'

-- a rule's line
abbrev pub KeptTold : Answer Rule → ℕ → ℕ → ℕ → List ℕ → List ℕ → Kept → Type 0
KeptTold o k end bytes row row' (Fault cause place) = o ≡ refused cause place
KeptTold o k end bytes row row' (Entries next) = RuleKept o k end bytes row row' next

-- before the first rule line
pub record RulesReady (text starts lengths links : List ℕ) (t : ℕ) (row : List ℕ) : Type 0 where
  pub lexicon : Lexicon text starts lengths links
  pub few : t ≤ limits.max_terminals
  pub most : length starts ≤ t + limits.max_nonterminals
  pub enough : smaller (length text) kept_entries ≤ length row
  pub short : length text ≤ limits.max_text

-- the rules are read, and what is kept of them stands in the row
pub record RulesKept (o : Answer (List Rule)) (row : List ℕ) (end : ℕ) : Type 0 where
  pub rules : List Rule
  pub read : o ≡ done rules
  pub used : end ≡ length (encode (take kept_rules rules))
  pub front : take end row ≡ encode (take kept_rules rules)
  pub inside : end ≤ length row

-- all rule lines
abbrev pub RulesTold : Answer (List Rule) → List ℕ → Kept → Type 0
RulesTold o row (Fault cause place) = o ≡ refused cause place
RulesTold o row (Entries end) = RulesKept o row end
