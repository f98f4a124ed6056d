-- What the reader's functions tell of a whole text.
-- Assumes nothing.
use Rattle.std.specs.Prelude.{ℕ, ◌+◌, ◌≤◌, ◌<◌, ◌≡◌, List, ◌++◌, length, take, drop}
use Rattle.grammar.specs.Limits.{limits}
use Rattle.grammar.specs.Grammar.{Grammar, state_count}
use Rattle.grammar.specs.Table.{encode}
use Rattle.grammar.specs.Refusal.{Answer, done, refused, and_then}
use Rattle.grammar.specs.TableCheck.{stored_table, check_table}
use Rattle.text.specs.Pieces.{split_on}
use Rattle.text.specs.Keys.{key}
use Rattle.text.specs.Read.{Source, symbol_names, names_of, declaration, rule_lines, whole_line, read_lines, read_text}
use Rattle.text.specs.Rules.{check_text, check_module}
use Rattle.text.specs.Promise.{starts_from, name_starts, name_lengths, text_read}
use Rattle.text.specs.declared.TextRead.{TextRead}
use Rattle.text.specs.declared.TextRead.TheVariants.{Read, Refused}
use Rattle.names.specs.Found.{part}
use Rattle.lexicon.specs.Tree.{Lexicon}
use Rattle.text_read.specs.Values.{all_names, smaller, NameRows}
use Rattle.text_read.specs.Lines.{kept_rules, kept_entries}
use Rattle.text_read.specs.declared.Heads.{Heads}
use Rattle.text_read.specs.declared.Heads.TheVariants as heads
use Rattle.text_read.specs.declared.TextKept.{TextKept}
use Rattle.text_read.specs.declared.TextKept.TheVariants.{Rules, Fault}

-- what the rule lines make of a text with these names
abbrev pub read_rest : List (List ℕ) → List (List ℕ) → List (List ℕ) → Answer Source
read_rest ts ns rest =
    and_then (rule_lines limits 3 (length ts) (ts ++ ns) rest) (λ rs.
    done (record { terminals = ts; nonterminals = ns; rules = rs }))

-- what the second line and those after it make of a text with these terminals
abbrev pub read_second : List (List ℕ) → List ℕ → List (List ℕ) → Answer Source
read_second ts second rest = and_then (declaration 2 1 1 limits.max_nonterminals ts second) (λ ns. read_rest ts ns rest)

-- the first line is read: its value stands from a to e and has t names; what the lines after it make of the text
pub record FirstHead (text : List ℕ) (a e t : ℕ) : Type 0 where
  pub starts : a ≡ length (key 0) + 1
  pub inside : a ≤ e
  pub ends : e < length text
  pub counts : t ≡ length (names_of (part a e text))
  pub most : t ≤ limits.max_terminals
  pub short : length text ≤ limits.max_text
  pub lines : read_lines limits (split_on 10 text) ≡ whole_line 2 (split_on 10 (drop (e + 1) text)) (read_second (names_of (part a e text)))

-- the rows have the places of its names, the tree has these names, and there is room for those of the second line
pub record FirstHeld (text : List ℕ) (a e t : ℕ) (starts lengths links : List ℕ) : Type 0 where
  pub starts-front : take t starts ≡ starts_from a (names_of (part a e text))
  pub lengths-front : take t lengths ≡ name_lengths (names_of (part a e text))
  pub tree : Lexicon text (take t starts) (take t lengths) links
  pub rows : NameRows (length text) starts lengths links

-- both lines are read: their values stand from a to e and from b to f, and have t and n names
pub record HeadsAt (text : List ℕ) (a e b f t n : ℕ) : Type 0 where
  pub first : a ≡ length (key 0) + 1
  pub first-inside : a ≤ e
  pub second : b ≡ e + 1 + (length (key 1) + 1)
  pub second-inside : b ≤ f
  pub ends : f < length text
  pub terminals : t ≡ length (names_of (part a e text))
  pub nonterminals : n ≡ length (names_of (part b f text))
  pub terminals-most : t ≤ limits.max_terminals
  pub nonterminals-most : n ≤ limits.max_nonterminals
  pub lines : read_lines limits (split_on 10 text) ≡ read_rest (names_of (part a e text)) (names_of (part b f text)) (split_on 10 (drop (f + 1) text))

-- both lines are read, the second ends at f; the rows have the places of all names, and the tree has all names
pub record HeadsRead (text starts lengths links : List ℕ) (f t n : ℕ) : Type 0 where
  pub a : ℕ
  pub e : ℕ
  pub b : ℕ
  pub heads : HeadsAt text a e b f t n
  pub starts-front : take (t + n) starts ≡ starts_from a (names_of (part a e text)) ++ starts_from b (names_of (part b f text))
  pub lengths-front : take (t + n) lengths ≡ name_lengths (names_of (part a e text)) ++ name_lengths (names_of (part b f text))
  pub tree : Lexicon text (take (t + n) starts) (take (t + n) lengths) links

-- the two declaring lines
abbrev pub HeadsTold : List ℕ → List ℕ → List ℕ → List ℕ → Heads → Type 0
HeadsTold text starts lengths links (heads.Fault cause place) = read_lines limits (split_on 10 text) ≡ refused cause place
HeadsTold text starts lengths links (heads.Names f t n) = HeadsRead text starts lengths links f t n

-- the last tests' answer: that of the table check of the first `end` entries
abbrev pub table_read : ℕ → ℕ → ℕ → Answer Grammar → TextRead
table_read t n end (done G) = Read t n end (state_count G.rules)
table_read t n end (refused cause place) = Refused cause place

-- before the rule lines, which start at `from`: both declaring lines are read, and the rows have the names' places
pub record Ready (text : List ℕ) (from t n : ℕ) (starts lengths links row : List ℕ) : Type 0 where
  pub a : ℕ
  pub e : ℕ
  pub b : ℕ
  pub f : ℕ
  pub heads : HeadsAt text a e b f t n
  pub begins : from ≡ f + 1
  pub short : length text ≤ limits.max_text
  pub starts-front : take (t + n) starts ≡ starts_from a (names_of (part a e text)) ++ starts_from b (names_of (part b f text))
  pub lengths-front : take (t + n) lengths ≡ name_lengths (names_of (part a e text)) ++ name_lengths (names_of (part b f text))
  pub starts-room : t + n ≤ length starts
  pub lengths-room : t + n ≤ length lengths
  pub lexicon : Lexicon text (take (t + n) starts) (take (t + n) lengths) links
  pub enough : smaller (length text) kept_entries ≤ length row

-- ---- the rows that are filled

-- a text of at most so many bytes has rows of so many entries
abbrev pub small_text : ℕ
small_text = 512

-- rows for a text of so many bytes: as many entries as bytes, or as are kept and as there are names at most
pub record Rows (bytes : ℕ) (row starts lengths : List ℕ) : Type 0 where
  pub entries : smaller bytes kept_entries ≤ length row
  pub names : smaller bytes all_names ≤ length starts
  pub some : 0 < length starts
  pub paired : length starts ≡ length lengths
  pub most : length starts ≤ all_names

-- the text is read, with t and n names, and its first rules stand in the row, which has `end` entries in use
pub record TextRules (text : List ℕ) (t n end : ℕ) (row : List ℕ) : Type 0 where
  pub source : Source
  pub read : read_text limits text ≡ done source
  pub terminals : t ≡ length source.terminals
  pub nonterminals : n ≡ length source.nonterminals
  pub used : end ≡ length (encode (take kept_rules source.rules))
  pub front : take end row ≡ encode (take kept_rules source.rules)
  pub inside : end ≤ length row

-- the lines of a text
abbrev pub LinesTold : List ℕ → List ℕ → TextKept → Type 0
LinesTold text row (Fault cause place) = read_text limits text ≡ refused cause place
LinesTold text row (Rules t n end) = TextRules text t n end row

-- where a text passes with this answer, the rows begin with the names' starts and lengths
pub record NamesTold (o : Answer Source) (starts lengths : List ℕ) : Type 0 where
  pub starts-front : (s : Source) → o ≡ done s → take (length (symbol_names s)) starts ≡ name_starts s
  pub lengths-front : (s : Source) → o ≡ done s → take (length (symbol_names s)) lengths ≡ name_lengths (symbol_names s)

-- what the lines of a text gave, and the rows
pub record TextIn (text : List ℕ) (k : TextKept) (row starts lengths : List ℕ) : Type 0 where
  pub lines : LinesTold text row k
  pub names : NamesTold (read_text limits text) starts lengths

-- the entries in use are in the row
abbrev pub KeptWithin : TextKept → List ℕ → Type 0
KeptWithin (Fault cause place) row = Unit {0}
KeptWithin (Rules t n end) row = end ≤ length row

-- the answer: a fault of the lines, or that of the table check
abbrev pub kept_read : TextKept → List ℕ → TextRead
kept_read (Fault cause place) row = Refused cause place
kept_read (Rules t n end) row = table_read t n end (check_table limits t n (take end row))

-- and for a module's text, which may lack sentences
abbrev pub module_read : TextKept → List ℕ → TextRead
module_read (Fault cause place) row = Refused cause place
module_read (Rules t n end) row = table_read t n end (stored_table limits t n (take end row))

-- the answer, and the rows of a text that passes with it begin with the table and the names' places
pub record Checks (o : Answer Source) (r : TextRead) (row starts lengths : List ℕ) : Type 0 where
  pub answer : r ≡ text_read o
  pub table : (s : Source) → o ≡ done s → take (length (encode s.rules)) row ≡ encode s.rules
  pub names : NamesTold o starts lengths

-- all tests but 14, and those of a module's text
abbrev pub ChecksText : List ℕ → TextRead → List ℕ → List ℕ → List ℕ → Type 0
ChecksText text = Checks (check_text limits text)

abbrev pub ChecksModule : List ℕ → TextRead → List ℕ → List ℕ → List ℕ → Type 0
ChecksModule text = Checks (check_module limits text)
