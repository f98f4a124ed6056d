-- Names gathered into one row of bytes, each in a part as long as the longest name may be, with rows of where they start and how long
-- they are; and what the functions that gather and write them are lent and tell. Assumes nothing.
use Rattle.std.specs.Prelude.{ℕ, ◌+◌, ◌*◌, ◌≤◌, ◌<◌, ◌≡◌, List, [], ◌∷◌, ◌++◌, ltb, length, take, get_or}
use Rattle.grammar.specs.Basics.{choose}
use Rattle.grammar.specs.Limits.{limits}
use Rattle.grammar.specs.Refusal.{done}
use Rattle.text.specs.Read.{Source, symbol_names}
use Rattle.text.specs.Rules.{check_text, check_module}
use Rattle.text.specs.Spelled.{spelled}
use Rattle.text_read.specs.Values.{all_names}
use Rattle.text_write.specs.Clauses.{Rows}
use Rattle.modules.specs.Joined.{joined}
use Rattle.joining.specs.Joins.{JoinedHeld}
use Rattle.joining.specs.declared.ListSizes.{ListSizes}

-- the bytes of the longest name
abbrev pub longest : ℕ
longest = 15

-- the names whose number is not below `least`, in their order
unfoldable pub fresh : ℕ → List ℕ → List (List ℕ) → List (List ℕ)
fresh least [] names = []
fresh least (i ∷ numbers) [] = []
fresh least (i ∷ numbers) (x ∷ names) = choose (ltb i least) (fresh least numbers names) (x ∷ fresh least numbers names)

-- ---- the rows

-- rows with room for all names
pub record NameRoom (bytes places spans : List ℕ) : Type 0 where
  pub bytes-room : all_names * longest ≤ length bytes
  pub places-room : all_names ≤ length places
  pub spans_room : all_names ≤ length spans

-- the rows begin with these names, k of them
pub record Gathered (names : List (List ℕ)) (k : ℕ) (bytes places spans : List ℕ) : Type 0 where
  pub count : k ≡ length names
  pub places-most : k ≤ length places
  pub spans_most : k ≤ length spans
  pub inside : (i : ℕ) → i < k → get_or places i 0 + get_or spans i 0 ≤ k * longest
  pub spells : spelled bytes (take k places) (take k spans) ≡ names

-- after any k names these are put
pub record Puts (more : List (List ℕ)) (k : ℕ) (bytes places spans bytes' places' spans' : List ℕ) : Type 0 where
  pub after : (names : List (List ℕ)) → Gathered names k bytes places spans → Gathered (names ++ more) (k + length more) bytes' places' spans'

-- ---- what is lent

-- names of a text, none too long
pub record Listed (text starts lengths : List ℕ) : Type 0 where
  pub rows : Rows text starts lengths
  pub short : (i : ℕ) → i < length starts → get_or lengths i 0 ≤ longest

-- name i of a text, and room for it after k others
pub record OneReady (text starts lengths : List ℕ) (i : ℕ) (bytes places spans : List ℕ) (k : ℕ) : Type 0 where
  pub listed : Listed text starts lengths
  pub inside : i < length starts
  pub room : NameRoom bytes places spans
  pub few : k < all_names

-- the same where its number is not below `least`
pub record MaybeReady (text starts lengths : List ℕ) (i number least : ℕ) (bytes places spans : List ℕ) (k : ℕ) : Type 0 where
  pub listed : Listed text starts lengths
  pub inside : i < length starts
  pub room : NameRoom bytes places spans
  pub few : least ≤ number → k < all_names

-- all names of the rows
pub record AllReady (text starts lengths bytes places spans : List ℕ) (k : ℕ) : Type 0 where
  pub listed : Listed text starts lengths
  pub room : NameRoom bytes places spans
  pub few : k + length starts ≤ all_names

-- those whose number is not below `least`
pub record FreshReady (text starts lengths numbers : List ℕ) (least : ℕ) (bytes places spans : List ℕ) (k : ℕ) : Type 0 where
  pub listed : Listed text starts lengths
  pub numbered : length starts ≡ length numbers
  pub room : NameRoom bytes places spans
  pub few : k + length (fresh least numbers (spelled text starts lengths)) ≤ all_names

-- names of one kind: all of the robot's, then those that the module adds
abbrev pub kind_names : List ℕ → List ℕ → List ℕ → List ℕ → List ℕ → List ℕ → List ℕ → List (List ℕ)
kind_names robot starts lengths addon firsts widths numbers =
    spelled robot starts lengths ++ fresh (length starts) numbers (spelled addon firsts widths)

pub record KindReady (robot starts lengths addon firsts widths numbers bytes places spans : List ℕ) (k : ℕ) : Type 0 where
  pub robot-listed : Listed robot starts lengths
  pub addon-listed : Listed addon firsts widths
  pub numbered : length firsts ≡ length numbers
  pub room : NameRoom bytes places spans
  pub few : k + length (kind_names robot starts lengths addon firsts widths numbers) ≤ all_names

-- the rows of texts that are joined, and room for their names
pub record NamesReady (robot addon : List ℕ) (z : ListSizes) (starts lengths firsts widths terminals nonterminals bytes places spans : List ℕ) : Type 0 where
  pub row : List ℕ
  pub e : ℕ
  pub q : ℕ
  pub held : JoinedHeld robot addon row starts lengths firsts widths terminals nonterminals z e q
  pub room : NameRoom bytes places spans

-- the rows begin with the joined names
pub record NamesGathered (robot addon : List ℕ) (z : ListSizes) (bytes places spans : List ℕ) : Type 0 where
  pub gathered : (r m : Source) → check_text limits robot ≡ done r → check_module limits addon ≡ done m
      → Gathered (symbol_names (joined limits r m)) (z.terminals + z.nonterminals) bytes places spans

-- the rows of texts that are joined, with the joined table
pub record WriteReady (robot addon : List ℕ) (z : ListSizes) (e : ℕ) (row starts lengths firsts widths terminals nonterminals : List ℕ) : Type 0 where
  pub q : ℕ
  pub held : JoinedHeld robot addon row starts lengths firsts widths terminals nonterminals z e q
