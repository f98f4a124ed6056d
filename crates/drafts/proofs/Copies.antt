-- One turn of a copy within a row: what is read has not been written. Assumes nothing.
use Prim.Native.Nat.{ℕ, ◌+◌, ◌-◌, ◌≤◌, ◌<◌}
use mathlib.Core.Path.{◌≡◌, ap, sym, ◌∙◌}
use mathlib.Core.List.{List, ◌++◌}
use mathlib.Core.Logic.{inl, inr}
use native.Mathlib.Omega.{arith}
use native.Mathlib.Numerals.{add-one}
use lib.ListN.{length, get_or, set, take, drop, length-drop, length-append, get_or-append}
use lib.Seq.{paste, paste-suc, length-paste, length_paste_head, get_or-drop, get_or-take, length-take-le, get_or-append-add}
use Rattle.drafts.specs.Edits.{Apart}
use Rattle.drafts.specs.Row.{splice}

-- below, in and past what was pasted
pub below-kept : (row s : List ℕ) (to n i : ℕ) → i < to → to ≤ length row → get_or (paste row to s n) i 0 ≡ get_or row i 0
below-kept row s to n i h k =
    let z : length (take to row) ≡ to = length-take-le to row k in
    let w = length-append (take to row) (take n s) in
    get_or-append (take to row ++ take n s) (drop (to + n) row) 0 i (omega (arith, z, w, h))
    ∙ get_or-append (take to row) (take n s) 0 i (omega (arith, z, h)) ∙ get_or-take to row i 0 h

pub past-kept : (row s : List ℕ) (to n i : ℕ) → to ≤ length row → n ≤ length s → to + n ≤ i → get_or (paste row to s n) i 0 ≡ get_or row i 0
past-kept row s to n i h k l =
    let w = length_paste_head row to s n h k in
    let j = i - (to + n) in
    let z : i ≡ length (take to row ++ take n s) + j = omega (arith, w, l) in
    let v : to + n + j ≡ i = omega (arith, l) in
    ap (λ (q : ℕ). get_or (paste row to s n) q 0) z ∙ get_or-append-add (take to row ++ take n s) (drop (to + n) row) j 0
    ∙ get_or-drop (to + n) row j 0 ∙ ap (λ (q : ℕ). get_or row q 0) v

-- what is read at a turn is what stood there
pub read_kept : (row : List ℕ) (from to n i : ℕ) → Apart from to n (length row) → i < n → get_or (paste row to (drop from row) i) (from + i) 0 ≡ get_or row (from + i) 0
read_kept row from to n i a h =
    let g = a.goal in
    let s = a.source in
    let d = length-drop from row in
    elim a.order [
      | inl b ↦ past-kept row (drop from row) to i (from + i) (omega (arith, g)) (omega (arith, d, s, h)) (omega (arith, b))
      | inr b ↦ below-kept row (drop from row) to i (from + i) (omega (arith, b, h)) (omega (arith, g))
    ]

pub copy_more : (row at : List ℕ) (from to n i : ℕ) → Apart from to n (length row) → i < n → at ≡ paste row to (drop from row) i
    → set at (to + i) (get_or at (from + i) 0) ≡ paste row to (drop from row) (i + 1)
copy_more row at from to n i a h e =
    let g = a.goal in
    let s = a.source in
    let d = length-drop from row in
    ap (λ (l : List ℕ). set l (to + i) (get_or l (from + i) 0)) e
    ∙ ap (set (paste row to (drop from row) i) (to + i)) (read_kept row from to n i a h ∙ sym (get_or-drop from row i 0))
    ∙ paste-suc row to (drop from row) i 0 (omega (arith, g, h)) (omega (arith, d, s, h)) ∙ ap (paste row to (drop from row)) (sym (add-one i))

pub copy_length : (row : List ℕ) (from to n i : ℕ) → Apart from to n (length row) → i ≤ n → length (paste row to (drop from row) i) ≡ length row
copy_length row from to n i a h =
    let g = a.goal in
    let s = a.source in
    let d = length-drop from row in
    length-paste row to (drop from row) i (omega (arith, g, h)) (omega (arith, d, s, h))

-- what is pasted is written
pub pasted : (row s xs : List ℕ) (to n : ℕ) → n ≤ length s → take n s ≡ xs → paste row to s n ≡ splice row to xs
pasted row s xs to n h e =
    let z : length xs ≡ n = ap length (sym e) ∙ length-take-le n s h in
    ap (λ (l : List ℕ). take to row ++ l ++ drop (to + n) row) e ∙ ap (λ (m : ℕ). take to row ++ xs ++ drop (to + m) row) (sym z)
