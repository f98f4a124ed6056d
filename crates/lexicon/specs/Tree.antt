-- The tree of the first names of some, held in one row of links, and what a search in it tells. A name is known by its number; its
-- two links stand in the row at twice the number and at the next place. Assumes nothing.
use Rattle.std.specs.Prelude.{ℕ, ◌+◌, ◌-◌, ◌*◌, ◌/◌, ◌%◌, ◌^◌, ◌≤◌, ◌<◌, ◌≡◌, List, [], ◌∷◌, map, true, false, ltb, length, drop, get_or, take, Result, MatchResult}
use Rattle.grammar.specs.Basics.{choose}
use Rattle.text.specs.Names.{folded, same_name}
use Rattle.text.specs.Spelled.{Inside}

-- what of a name counts
unfoldable pub folded_name : List ℕ → List ℕ
folded_name x = map folded x

-- how many turns go by the key, and the first bit of it that does
abbrev pub key_bits : ℕ
key_bits = 24

abbrev pub key_skip : ℕ
key_skip = 28

-- what of the key is carried on to the next byte, and what it is then multiplied by
abbrev pub key_span : ℕ
key_span = 4294967296

abbrev pub key_factor : ℕ
key_factor = 2654435761

-- the key of what counts, byte by byte: names that begin or end alike seldom have its bits from key_skip on in common
unfoldable pub key_from : ℕ → List ℕ → ℕ
key_from k [] = k
key_from k (b ∷ x) = key_from ((k % key_span + b) * key_factor) x

unfoldable pub key_of : List ℕ → ℕ
key_of x = key_from 0 x

-- bit j of some bytes, 0 past their end
unfoldable pub byte_bit : List ℕ → ℕ → ℕ
byte_bit x j = get_or x (j / 8) 0 / 2 ^ (j % 8) % 2

-- where a name turns at depth d: by a bit of its key, then by its own bits. The laws use only that this is 0 or 1
unfoldable pub turn : List ℕ → ℕ → ℕ
turn x d = choose (ltb d key_bits) (key_of x / 2 ^ (key_skip + d) % 2) (byte_bit x (d - key_bits))

-- name number i
unfoldable pub name_of : List ℕ → List ℕ → List ℕ → ℕ → List ℕ
name_of text starts lengths i = take (get_or lengths i 0) (drop (get_or starts i 0) text)

-- as many lengths as starts, each name in the text
pub record Spans (text starts lengths : List ℕ) : Type 0 where
  pub paired : length starts ≡ length lengths
  pub inside : Inside text starts lengths

-- whether s is met on the way that k, what counts of a name, takes from name q, at depth d
pub data Below (C k : List ℕ) (s : ℕ) : ℕ → ℕ → Type 0 where
  here : {d q : ℕ} → q ≡ s → Below C k s d q
  down : {d q : ℕ} → 0 < get_or C (2 * q + turn k d) 0 → Below C k s (d + 1) (get_or C (2 * q + turn k d) 0) → Below C k s d q

-- whether D has every link of C
pub record Keeps (C D : List ℕ) : Type 0 where
  pub kept : (i : ℕ) → 0 < get_or C i 0 → get_or D i 0 ≡ get_or C i 0

module _ (name : ℕ → List ℕ) (C : List ℕ) (count : ℕ) where
  -- the tree has the first names; links go to later ones of these
  pub record Grown : Type 0 where
    pub root : 0 < count
    pub link : (i : ℕ) → 0 < get_or C i 0 → get_or C i 0 < count
    pub forward : (i : ℕ) → 0 < get_or C i 0 → i < 2 * get_or C i 0
    pub held : (s : ℕ) → s < count → Below C (folded_name (name s)) s 0 0

  -- name q is x
  pub record Hit (x : List ℕ) (q : ℕ) : Type 0 where
    pub inside : q < count
    pub same : same_name x (name q) ≡ true

  -- none of the names is x, and a link written at i leads to it
  pub record Gap (x : List ℕ) (i : ℕ) : Type 0 where
    pub near : i < 2 * count
    pub empty : get_or C i 0 ≡ 0
    pub absent : (s : ℕ) → s < count → same_name x (name s) ≡ false
    pub led : (D : List ℕ) → Keeps C D → 0 < get_or D i 0 → Below D (folded_name x) (get_or D i 0) 0 0

  abbrev pub Told : List ℕ → Result ℕ ℕ → Type 0
  Told x r = MatchResult r (Hit x) (Gap x)

-- the most names that links of 16 bits can tell apart
abbrev pub most_names : ℕ
most_names = 65535

-- the tree has all names, of which no two are the same; without names it has no link
pub record Lexicon (text starts lengths links : List ℕ) : Type 0 where
  pub spans : Spans text starts lengths
  pub few : length starts ≤ most_names
  pub room : 2 * length starts ≤ length links
  pub bare : length starts ≡ 0 → (i : ℕ) → get_or links i 0 ≡ 0
  pub grown : 0 < length starts → Grown (name_of text starts lengths) links (length starts)
  pub apart : (i j : ℕ) → i < j → j < length starts → same_name (name_of text starts lengths j) (name_of text starts lengths i) ≡ false

-- the tree has the names before number `from`, of which no two are the same, and room for the others
pub record Planted (text starts lengths links : List ℕ) (from : ℕ) : Type 0 where
  pub spans : Spans text starts lengths
  pub few : length starts ≤ most_names
  pub room : 2 * length starts ≤ length links
  pub near : from ≤ length starts
  pub bare : from ≡ 0 → (i : ℕ) → get_or links i 0 ≡ 0
  pub grown : 0 < from → Grown (name_of text starts lengths) links from
  pub apart : (i j : ℕ) → i < j → j < from → same_name (name_of text starts lengths j) (name_of text starts lengths i) ≡ false
