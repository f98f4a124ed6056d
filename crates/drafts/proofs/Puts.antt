-- Rules written into a block: the row then holds them there, and in every other block what it held. Assumes nothing.
use Prim.Native.Nat.{ℕ, ◌+◌, ◌-◌, ◌≤◌, ◌<◌}
use mathlib.Core.Path.{◌≡◌, refl, ap, sym, ◌∙◌}
use mathlib.Core.List.{List, ◌++◌, append_assoc}
use mathlib.Core.Option.{some}
use mathlib.Core.Logic.{◌⊎◌, inl, inr}
use native.Mathlib.Omega.{arith}
use lib.ListN.{length, get_or, take, drop, length-drop}
use lib.Seq.{take-length, length-take-le, length-paste, paste, ext_get_or, get_or-take, get_or-drop, drop_at, take-append-le, take-append-add}
use Rattle.grammar.specs.Grammar.{Rule}
use Rattle.grammar.specs.Table.{encode, decode}
use Rattle.grammar.proofs.Lists.{lt_or_le}
use Rattle.grammar.proofs.Rules.{decode-encode}
use Rattle.drafts.specs.Draft.{marks_count}
use Rattle.drafts.specs.Row.{block_size, block_at, draft_room, block_of, walk, end_of, rules_to, rules_in, splice, image, put}
use Rattle.drafts.proofs.Walks.{walk-along, end_walks}
use Rattle.drafts.proofs.Copies.{below-kept, past-kept}

-- ---- a block that begins with an image holds the rules

pub holds_image : (rs : List Rule) (tail : List ℕ) → rules_in (image rs ++ tail) ≡ some rs
holds_image rs tail =
    let block = image rs ++ tail in
    let c : 1 ≤ length rs + 1 = omega arith in
    let m : length rs + 1 - 1 ≡ length rs = omega arith in
    let w : end_of block ≡ some (1 + length (encode (take (length rs) rs)))
    = end_walks block c ∙ ap (λ (n : ℕ). walk n block 1) m ∙ walk-along (length rs) block 1 rs tail (omega arith) refl in
    let z : 1 + length (encode rs) - 1 ≡ length (encode rs) = omega arith in
    ap (rules_to block) (w ∙ ap (λ (l : List Rule). some (1 + length (encode l))) (take-length rs))
    ∙ ap (λ (n : ℕ). some (decode (take n (encode rs ++ tail)))) z
    ∙ ap (λ (l : List ℕ). some (decode l)) (take-append-le (length (encode rs)) (encode rs) tail (omega arith) ∙ take-length (encode rs))
    ∙ ap some (decode-encode rs)

-- ---- entries written into a row

spliced : (row xs : List ℕ) (at : ℕ) → splice row at xs ≡ paste row at xs (length xs)
spliced row xs at = ap (λ (l : List ℕ). take at row ++ l ++ drop (at + length xs) row) (sym (take-length xs))

pub splice-length : (row xs : List ℕ) (at : ℕ) → at + length xs ≤ length row → length (splice row at xs) ≡ length row
splice-length row xs at h = ap length (spliced row xs at) ∙ length-paste row at xs (length xs) h (omega arith)

pub splice-other : (row xs : List ℕ) (at i : ℕ) → at + length xs ≤ length row → (i < at) ⊎ (at + length xs ≤ i) → get_or (splice row at xs) i 0 ≡ get_or row i 0
splice-other row xs at i h (inl b) = ap (λ (l : List ℕ). get_or l i 0) (spliced row xs at) ∙ below-kept row xs at (length xs) i b (omega (arith, h))
splice-other row xs at i h (inr b) = ap (λ (l : List ℕ). get_or l i 0) (spliced row xs at) ∙ past-kept row xs at (length xs) i (omega (arith, h)) (omega arith) b

-- parts of two rows with the same entries
pub part_same : (l r : List ℕ) (a m : ℕ) → a + m ≤ length l → a + m ≤ length r → ((i : ℕ) → i < m → get_or l (a + i) 0 ≡ get_or r (a + i) 0)
    → take m (drop a l) ≡ take m (drop a r)
part_same l r a m h k e =
    let x : length (take m (drop a l)) ≡ m = length-take-le m (drop a l) (omega (arith, length-drop a l, h)) in
    let y : length (take m (drop a r)) ≡ m = length-take-le m (drop a r) (omega (arith, length-drop a r, k)) in
    ext_get_or 0 (take m (drop a l)) (take m (drop a r)) (x ∙ sym y) (λ i j.
    let z : i < m = omega (arith, j, x) in
    get_or-take m (drop a l) i 0 z ∙ get_or-drop a l i 0 ∙ e i z ∙ sym (get_or-take m (drop a r) i 0 z ∙ get_or-drop a r i 0))

-- the front of two rows end to end
pub take-over : (n : ℕ) (xs ys : List ℕ) → length xs ≤ n → take n (xs ++ ys) ≡ xs ++ take (n - length xs) ys
take-over n xs ys h = let z : n ≡ length xs + (n - length xs) = omega (arith, h) in ap (λ (m : ℕ). take m (xs ++ ys)) z ∙ take-append-add xs ys (n - length xs)

module _ (row : List ℕ) (j : ℕ) (rs : List Rule) (room : draft_room ≤ length row) (known : j ≤ marks_count) (fits : length (image rs) ≤ block_size) where
  inside : block_at j + length (image rs) ≤ length row
  inside = omega (arith, room, known, fits)

  pub put-length : length (put row j rs) ≡ length row
  put-length = splice-length row (image rs) (block_at j) inside

  -- t and n stay
  pub put-cells : (i : ℕ) → i < 2 → get_or (put row j rs) i 0 ≡ get_or row i 0
  put-cells i h = splice-other row (image rs) (block_at j) i inside (inl (omega (arith, h)))

  -- the block that is written holds the rules
  pub put-block : rules_in (block_of (put row j rs) j) ≡ some rs
  put-block = ap rules_in front ∙ holds_image rs (take (block_size - length (image rs)) (drop (block_at j + length (image rs)) row))
    where
      front : block_of (put row j rs) j ≡ image rs ++ take (block_size - length (image rs)) (drop (block_at j + length (image rs)) row)
      front =
          let a : length (take (block_at j) row) ≡ block_at j = length-take-le (block_at j) row (omega (arith, inside)) in
          ap (take block_size) (ap (drop (block_at j)) (append_assoc (take (block_at j) row) (image rs) (drop (block_at j + length (image rs)) row))
          ∙ drop_at (take (block_at j) row) (image rs ++ drop (block_at j + length (image rs)) row) (block_at j) a)
          ∙ take-over block_size (image rs) (drop (block_at j + length (image rs)) row) fits

  -- the others stay
  pub put_other : (k : ℕ) → k ≤ marks_count → (k ≡ j → ⊥) → block_of (put row j rs) k ≡ block_of row k
  put_other k h ne =
      let p = put-length in
      part_same (put row j rs) row (block_at k) block_size (omega (arith, p, room, h)) (omega (arith, room, h))
      (λ i b. splice-other row (image rs) (block_at j) (block_at k + i) inside (apart i b))
    where
      apart : (i : ℕ) → i < block_size → (block_at k + i < block_at j) ⊎ (block_at j + length (image rs) ≤ block_at k + i)
      apart i b = elim (lt_or_le k j) [
        | inl c ↦ inl (omega (arith, c, b))
        | inr c ↦ elim (lt_or_le j k) [
          | inl d ↦ inr (omega (arith, d, fits))
          | inr d ↦ absurd (ne (omega (arith, c, d)))
        ]
      ]
