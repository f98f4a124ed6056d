-- What the reader's functions tell of a line's value and its names.
-- An answer of the code is told by what the definition says: a fault by the refusal, a result by a record of facts.
-- Assumes nothing.
use Rattle.std.specs.Prelude.{ℕ, ◌+◌, ◌*◌, ◌≤◌, ◌<◌, ◌≡◌, List, [], ◌∷◌, ◌++◌, leb, length, take, Option, Some, None}
use Rattle.std.proofs.Math.Option.{none, some}
use Rattle.grammar.specs.Basics.{choose}
use Rattle.grammar.specs.Limits.{limits}
use Rattle.grammar.specs.Refusal.{done, refused}
use Rattle.text.specs.Names.{all, is_name}
use Rattle.text.specs.Keys.{key, value_of}
use Rattle.text.specs.Read.{names_of, declaration}
use Rattle.text.specs.Promise.{starts_from, name_lengths}
use Rattle.text.specs.Spelled.{spelled}
use Rattle.names.specs.Found.{part}
use Rattle.lexicon.specs.Tree.{Lexicon}
use Rattle.doubles.specs.Blocks.{BlockRows}
use Rattle.text_read.specs.declared.Split.{Split}
use Rattle.text_read.specs.declared.Split.TheVariants.{Value, Malformed}
use Rattle.text_read.specs.declared.Declared.{Declared}
use Rattle.text_read.specs.declared.Declared.TheVariants.{Names, Fault}

-- how many names there are at most
abbrev pub all_names : ℕ
all_names = limits.max_terminals + limits.max_nonterminals

-- the smaller of two numbers
unfoldable pub smaller : ℕ → ℕ → ℕ
smaller a b = choose (leb a b) a b

-- rows for the names of a text of so many bytes, as many entries as bytes or as names at most, and two links for each entry
pub record NameRows (bytes : ℕ) (starts lengths links : List ℕ) : Type 0 where
  pub enough : smaller bytes all_names ≤ length starts
  pub lent : BlockRows starts lengths links

-- the value of a line of key k stands from start to end
pub record HasValue (k : ℕ) (line : List ℕ) (start end : ℕ) : Type 0 where
  pub starts : start ≡ length (key k) + 1
  pub ends : end ≡ length line
  pub inside : start ≤ end
  pub value : value_of (key k) line ≡ some (part start end line)

-- the key split
abbrev pub SplitTold : ℕ → List ℕ → Split → Type 0
SplitTold k line Malformed = value_of (key k) line ≡ none
SplitTold k line (Value start end) = HasValue k line start end

-- how many names there are besides k; none where one is malformed
unfoldable pub counted : ℕ → List (List ℕ) → Option ℕ
counted k ns = choose (all is_name ns) (Some (k + length ns)) None

-- what follows a rule's colon, cut at spaces: how many names; none where it is malformed
unfoldable pub body_counted : List (List ℕ) → Option ℕ
body_counted [] = None
body_counted ([] ∷ names) = counted 0 names
body_counted ((b ∷ p) ∷ names) = None

-- the rows and the tree have the text's names before number `from`, and room for so many more
pub record NamesReady (text : List ℕ) (from more : ℕ) (starts lengths links : List ℕ) : Type 0 where
  pub tree : Lexicon text (take from starts) (take from lengths) links
  pub few : from + more ≤ all_names
  pub starts-room : from + more ≤ length starts
  pub lengths-room : from + more ≤ length lengths
  pub links-room : 2 * (from + more) ≤ length links
  pub short : length text ≤ limits.max_text

-- the rows have the places of so many names, whose value stands from b to f, from entry `from` on, and the tree has these names too
pub record NamesHeld (text : List ℕ) (b f from : ℕ) (starts lengths starts' lengths' links' : List ℕ) (count : ℕ) : Type 0 where
  pub starts-front : take (from + count) starts' ≡ take from starts ++ starts_from b (names_of (part b f text))
  pub lengths-front : take (from + count) lengths' ≡ take from lengths ++ name_lengths (names_of (part b f text))
  pub tree : Lexicon text (take (from + count) starts') (take (from + count) lengths') links'

-- before a line of key k, from a to e of the text: the rows and the tree have the names of the earlier value, which stands before it
pub record HeadReady (k lo hi : ℕ) (earlier text : List ℕ) (a e from : ℕ) (starts lengths links : List ℕ) : Type 0 where
  pub known : k < 3
  pub least : lo ≤ 1
  pub low : a ≤ e
  pub high : e ≤ length text
  pub behind : from ≤ a
  pub few : from + hi ≤ all_names
  pub tree : Lexicon text (take from starts) (take from lengths) links
  pub spelt : spelled text (take from starts) (take from lengths) ≡ names_of earlier
  pub rows : NameRows (length text) starts lengths links
  pub short : length text ≤ limits.max_text

-- a declaring line from a to e of the text is read: its value starts at b and has so many names
pub record NamesAt (at k lo hi : ℕ) (earlier : List (List ℕ)) (text : List ℕ) (a e b count : ℕ) : Type 0 where
  pub starts : b ≡ a + (length (key k) + 1)
  pub inside : b ≤ e
  pub read : declaration at k lo hi earlier (part a e text) ≡ done (names_of (part b e text))
  pub counts : count ≡ length (names_of (part b e text))
  pub most : count ≤ hi

-- a declaring line
abbrev pub DeclaredTold : ℕ → ℕ → ℕ → ℕ → List (List ℕ) → List ℕ → ℕ → ℕ → Declared → Type 0
DeclaredTold at k lo hi earlier text a e (Fault cause place) = declaration at k lo hi earlier (part a e text) ≡ refused cause place
DeclaredTold at k lo hi earlier text a e (Names b count) = NamesAt at k lo hi earlier text a e b count

-- the rows and the tree after it
abbrev pub DeclaredHeld : List ℕ → ℕ → ℕ → List ℕ → List ℕ → List ℕ → List ℕ → List ℕ → Declared → Type 0
DeclaredHeld text e from starts lengths starts' lengths' links' (Fault cause place) = Unit {0}
DeclaredHeld text e from starts lengths starts' lengths' links' (Names b count) = NamesHeld text b e from starts lengths starts' lengths' links' count
