-- Rows suffice that have an entry for each byte of the text: a text has no more names than bytes, and a rule no more entries than its
-- line has bytes. Assumes nothing.
use Prim.Native.Nat.{ℕ, suc, ◌+◌, ◌-◌, ◌*◌, ◌≤◌, ◌<◌}
use mathlib.Core.Path.{◌≡◌, refl, ap, sym, ◌∙◌}
use mathlib.Core.List.{List, [], ◌∷◌}
use mathlib.Core.Bool.{Bool, true, false}
use native.Mathlib.Omega.{arith}
use borrow.Author.Tests.{leb-true, leb-false}
use lib.Dec.{eqb, leb}
use lib.ListN.{length, drop, replicate, length-drop, length-replicate}
use lib.Seq.{length-take-le}
use Rattle.grammar.specs.Basics.{choose}
use Rattle.text.specs.Pieces.{onto, split_on}
use Rattle.text.specs.Read.{names_of}
use Rattle.names.specs.Found.{part}
use Rattle.text_read.specs.Values.{all_names, smaller, NameRows}
use Rattle.text_read.specs.Lines.{ShapeAt, LineReady, kept_rules, kept_entries}
use Rattle.text_read.specs.Texts.{HeadsAt, small_text, Rows}

-- ---- the smaller of two numbers

module _ (a b : ℕ) where
  pub smaller_in : (m : ℕ) → m ≤ a → m ≤ b → m ≤ smaller a b
  unfolding smaller
  smaller_in m h l = go (leb a b)
    where
      go : (t : Bool) → m ≤ choose t a b
      go true = h
      go false = l

  pub smaller-first : smaller a b ≤ a
  unfolding smaller
  smaller-first = go (leb a b) refl
    where
      go : (t : Bool) → leb a b ≡ t → choose t a b ≤ a
      go true q = omega arith
      go false q = omega (arith, leb-false a b q)

  pub smaller-second : smaller a b ≤ b
  unfolding smaller
  smaller-second = go (leb a b) refl
    where
      go : (t : Bool) → leb a b ≡ t → choose t a b ≤ b
      go true q = leb-true a b q
      go false q = omega arith

-- ---- names

-- there is one piece more than separators
pub pieces_most : (c : ℕ) (s : List ℕ) → length (split_on c s) ≤ length s + 1
unfolding split_on
pieces_most c [] = omega arith
pieces_most c (b ∷ s) = go (eqb b c) (split_on c s) (pieces_most c s)
  where
    same : (ps : List (List ℕ)) → length (onto b ps) ≡ length ps
    same [] = refl
    same (p ∷ ps) = refl

    go : (t : Bool) (ps : List (List ℕ)) → length ps ≤ length s + 1 → length (choose t ([] ∷ ps) (onto b ps)) ≤ suc (length s) + 1
    go true ps h = omega arith
    go false ps h = omega (arith, same ps)

names-most : (v : List ℕ) → length (names_of v) ≤ length v + 1
unfolding names_of
names-most [] = omega arith
names-most (b ∷ v) = pieces_most 44 (b ∷ v)

pub part-names : (text : List ℕ) (b e : ℕ) → b ≤ e → e ≤ length text → length (names_of (part b e text)) ≤ e - b + 1
part-names text b e h l =
    let n : length (part b e text) ≡ e - b = length-take-le (e - b) (drop b text) (omega (arith, length-drop b text)) in
    omega (arith, n, names-most (part b e text))

-- both lines' names
pub heads_most : (text : List ℕ) (a e b f t n : ℕ) → HeadsAt text a e b f t n → t + n ≤ length text
heads_most text a e b f t n h =
    omega (
      arith,
      h.first,
      h.first-inside,
      h.second,
      h.second-inside,
      h.ends,
      h.terminals,
      h.nonterminals,
      part-names text a e h.first-inside (omega (arith, h.second, h.second-inside, h.ends)),
      part-names text b f h.second-inside (omega (arith, h.ends)),
    )

-- ---- entries

-- a rule has fewer entries than its value has bytes, and one
pub rule-bytes : (v : List ℕ) (colon count : ℕ) → ShapeAt v colon count → count + 2 ≤ length v + 1
rule-bytes v colon count h =
    let n : length (split_on 32 (drop (colon + 1) v)) ≡ 1 + length h.sides.body = ap length h.body ∙ omega arith in
    omega (arith, pieces_most 32 (drop (colon + 1) v), length-drop (colon + 1) v, h.inside, h.counts, n)

-- the row has room for a rule that is kept
pub rule-room : (text starts lengths links : List ℕ) (t : ℕ) (row : List ℕ) (k end : ℕ) (v : List ℕ) (colon count : ℕ) → ShapeAt v colon count
    → LineReady text starts lengths links t row k end (length v + 1) → k < kept_rules → count ≤ 12 → end + 2 + count ≤ length row
rule-room text starts lengths links t row k end v colon count s h l m =
    let x = smaller_in (length text) kept_entries (end + 2 + count) (omega (arith, h.fits, rule-bytes v colon count s)) (omega (arith, h.near)) in
    omega (arith, x, h.enough)

-- ---- rows

pub name-rows : {bytes : ℕ} {row starts lengths links : List ℕ} → Rows bytes row starts lengths → 2 * length starts ≤ length links → NameRows bytes starts lengths links
name-rows h l = record { enough = h.names; lent = record { some = h.some; paired = h.paired; few = omega (arith, h.most); room = l } }

-- rows that keep their lengths
pub rows-kept : {bytes : ℕ} {starts lengths links starts' lengths' links' : List ℕ} → NameRows bytes starts lengths links
    → length starts' ≡ length starts → length lengths' ≡ length lengths → length links' ≡ length links → NameRows bytes starts' lengths' links'
rows-kept h p q z = record {
  enough = omega (arith, h.enough);
  lent = record {
    some = omega (arith, h.lent.some);
    paired = p ∙ h.lent.paired ∙ sym q;
    few = omega (arith, h.lent.few);
    room = omega (arith, h.lent.room);
  };
}

-- local rows
pub rows-small : (bytes : ℕ) → bytes ≤ small_text → Rows bytes (replicate small_text 0) (replicate small_text 0) (replicate small_text 0)
rows-small bytes h =
    let z = length-replicate {A = ℕ} small_text 0 in
    record {
      entries = omega (arith, z, smaller-first bytes kept_entries);
      names = omega (arith, z, smaller-first bytes all_names);
      some = omega (arith, z);
      paired = refl;
      most = omega (arith, z);
    }

pub rows-large : (bytes : ℕ) → Rows bytes (replicate kept_entries 0) (replicate all_names 0) (replicate all_names 0)
rows-large bytes =
    let z = length-replicate {A = ℕ} kept_entries 0 in
    let w = length-replicate {A = ℕ} all_names 0 in
    record {
      entries = omega (arith, z, smaller-second bytes kept_entries);
      names = omega (arith, w, smaller-second bytes all_names);
      some = omega (arith, w);
      paired = refl;
      most = omega (arith, w);
    }
