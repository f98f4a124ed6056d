-- What the contracts of the writer's inner functions say. The public entries cite the definitions of `text` alone.
-- The names that rows lend are `spelled bytes starts lengths`. Assumes nothing.
use Rattle.std.specs.Prelude.{ℕ, ◌+◌, ◌≤◌, ◌<◌, ◌≡◌, Bool, false, List, [], ◌∷◌, ◌++◌, map, eqb, length, take, drop, get_or}
use Rattle.std.proofs.Math.Option.{Option, none, some}
use Rattle.grammar.specs.Basics.{Mem}
use Rattle.grammar.specs.Limits.{limits}
use Rattle.grammar.specs.Grammar.{Rule, Grammar}
use Rattle.grammar.specs.Table.{encode, decode}
use Rattle.grammar.specs.Refusal.{Answer, done, refused, refuse_unless, name_repeated}
use Rattle.grammar.specs.TableCheck.{check_table}
use Rattle.text.specs.Pieces.{line_end, space, led_by, ended_by}
use Rattle.text.specs.Names.{is_name}
use Rattle.text.specs.Read.{symbol_of}
use Rattle.text.specs.Print.{print_line, name_of, print_rule, printed, first_double}
use Rattle.text.specs.Promise.{text_length}
use Rattle.text.specs.declared.TextLength.{TextLength}
use Rattle.text.specs.Spelled.{spelled}

-- ---- names

-- there is a name, and it is well formed
abbrev pub is_well : Option (List ℕ) → Bool
is_well none = false
is_well (some x) = is_name x

-- where gathering m names stops: at the refusal, or after the last
abbrev pub stops_at : ℕ → Answer (List (List ℕ)) → ℕ
stops_at m (done names) = m
stops_at m (refused cause at) = at

-- rows of equal length whose entries lie in the bytes
pub record Rows (bytes starts lengths : List ℕ) : Type 0 where
  pub paired : length starts ≡ length lengths
  pub inside : (i : ℕ) → i < length starts → get_or starts i 0 + get_or lengths i 0 ≤ length bytes

-- ---- codes and tables, with t terminals and m names

-- each code has a name
pub record Known (t m : ℕ) (codes : List ℕ) : Type 0 where
  pub few : t ≤ limits.max_terminals
  pub each : (i : ℕ) → i < length codes → (1 ≤ get_or codes i 0) × (symbol_of limits t (get_or codes i 0) < m)

-- the table is whole rules whose codes have names
pub record Coded (t m : ℕ) (table : List ℕ) : Type 0 where
  pub whole : encode (decode table) ≡ table
  pub known : (r : Rule) → Mem r (decode table) → Known t m (r.left ∷ r.right)

-- ---- bytes written

-- a text written into a row from place `at` on, and the place after it
pub record Wrote (at : ℕ) (text out : List ℕ) (next : ℕ) (out' : List ℕ) : Type 0 where
  pub place : next ≡ at + length text
  pub row : out' ≡ take at out ++ (text ++ drop (at + length text) out)

-- a line of key k with its byte 10
abbrev pub line_text : ℕ → List ℕ → List ℕ
line_text k v = print_line k v ++ (line_end ∷ [])

-- the right side of a rule, a rule's line with its byte 10, and the lines of a table
abbrev pub codes_text : ℕ → List (List ℕ) → List ℕ → List ℕ
codes_text t names codes = led_by space (map (name_of limits t names) codes)

abbrev pub rule_text : ℕ → List (List ℕ) → Rule → List ℕ
rule_text t names r = print_rule limits t names r ++ (line_end ∷ [])

abbrev pub rules_text : ℕ → List (List ℕ) → List ℕ → List ℕ
rules_text t names table = ended_by line_end (map (print_rule limits t names) (decode table))

-- the text of names, of which t are terminals, and rules
abbrev pub text_of : ℕ → List (List ℕ) → List Rule → List ℕ
text_of t names rules = printed limits (record { terminals = take t names; nonterminals = drop t names; rules = rules })

-- ---- the answer

-- a table that passes the check
pub record Checked (t n : ℕ) (table : List ℕ) : Type 0 where
  pub grammar : Grammar
  pub passes : check_table limits t n table ≡ done grammar

-- a checked table, and rows that lend well-formed names for all its symbols
pub record Ready (t : ℕ) (table bytes starts lengths : List ℕ) : Type 0 where
  pub rows : Rows bytes starts lengths
  pub few : length starts ≤ limits.max_terminals + limits.max_nonterminals
  pub coded : Coded t (length starts) table
  pub terminals : t ≤ length starts
  pub short : length (text_of t (spelled bytes starts lengths) (decode table)) ≤ limits.max_text

-- the text of a checked table and well-formed names, or 18
abbrev pub named_text : ℕ → List (List ℕ) → List Rule → Answer (List ℕ)
named_text t names rules =
    refuse_unless name_repeated (first_double [] names) (eqb (first_double [] names) (length names)) (done (text_of t names rules))

-- the code's answer is its length, or that refusal
abbrev pub NamedAnswer : ℕ → List (List ℕ) → List Rule → TextLength → Type 0
NamedAnswer t names rules r = r ≡ text_length (named_text t names rules)
