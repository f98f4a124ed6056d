-- A rule taken out of a row: what follows it moves down. Assumes nothing.
use Prim.Native.Nat.{ℕ, zero, suc, ◌+◌, ◌-◌, ◌≤◌, ◌<◌}
use mathlib.Core.Path.{◌≡◌, refl, ap, sym, ◌∙◌}
use mathlib.Core.Bool.{Bool, false, ◌&&◌}
use mathlib.Core.List.{List, [], ◌∷◌, ◌++◌, append_assoc}
use mathlib.Core.Option.{some}
use mathlib.Core.Logic.{◌⊎◌, inl, inr}
use native.Mathlib.Omega.{arith}
use lib.Dec.{leb}
use lib.ListN.{length, get_or, set, take, drop, length-drop, length-append, take-append-drop}
use lib.Seq.{take-take, paste, length-take-le, drop-drop, take-append_seam, drop-append_seam, take_at, drop_at}
use borrow.Author.Tests.{le-leb, lt-leb}
use Rattle.grammar.specs.Grammar.{Rule}
use Rattle.grammar.specs.Table.{encode, length_at}
use Rattle.grammar.specs.Refusal.{done, refused, not_present}
use Rattle.grammar.proofs.Answers.{both_and, and_false, unless_holds, unless_fails}
use Rattle.grammar.proofs.Rules.{reads}
use Rattle.drafts.specs.Draft.{withdraw, without, with_rules, taken}
use Rattle.drafts.specs.Row.{block_size, block_of, walk, draft_with, splice, image, put, stepped}
use Rattle.drafts.specs.Edits.{Apart, Reaches, Removable, removed, open_row}
use Rattle.drafts.proofs.Walks.{walk-along, some_inj}
use Rattle.drafts.proofs.Copies.{below-kept}
use Rattle.drafts.proofs.Opens.{Open, open_done, step-done, step-refused}

-- ---- a rule taken out

pub remove_apart : (row : List ℕ) (from end k : ℕ) → Removable row from end → k ≡ length_at row from → Apart (from + 2 + k) from (2 + end - (from + 2 + k)) (length row)
remove_apart row from end k r e =
    let w = r.whole in
    let i = r.within in
    record { source = omega (arith, w, i, e); goal = omega (arith, w, i, e); order = inl (omega arith) }

pub remove_cell : (row now : List ℕ) (from end k n : ℕ) → Removable row from end → now ≡ paste row from (drop (from + 2 + k) row) n → get_or now 2 0 ≡ get_or row 2 0
remove_cell row now from end k n r e =
    let p = r.past in
    let w = r.whole in
    let i = r.within in
    ap (λ (l : List ℕ). get_or l 2 0) e ∙ below-kept row (drop (from + 2 + k) row) from n 2 (omega (arith, p)) (omega (arith, w, i))

pub remove_row : (row now : List ℕ) (from end k : ℕ) → Removable row from end → k ≡ length_at row from
    → now ≡ paste row from (drop (from + 2 + k) row) (2 + end - (from + 2 + k)) → set now 2 (get_or now 2 0 - 1) ≡ removed row from end
remove_row row now from end k r e q =
    ap (λ (c : ℕ). set now 2 (c - 1)) (remove_cell row now from end k (2 + end - (from + 2 + k)) r q)
    ∙ ap (λ (l : List ℕ). set l 2 (get_or row 2 0 - 1)) q
    ∙ ap (λ (k : ℕ). set (paste row from (drop (from + 2 + k) row) (2 + end - (from + 2 + k))) 2 (get_or row 2 0 - 1)) e

-- the rules before and after one, and the rule itself
record Cut (m : ℕ) (rs : List Rule) : Type 0 where
  rule : Rule
  after : List ℕ
  all : encode rs ≡ encode (take m rs) ++ (rule.left ∷ length rule.right ∷ (rule.right ++ after))
  less : encode (without m rs) ≡ encode (take m rs) ++ after
  count : length (without m rs) + 1 ≡ length rs

cut : (m : ℕ) (rs : List Rule) → m < length rs → Cut m rs
unfolding encode without
cut m [] h = absurd (omega (arith, h))
cut zero (r ∷ rs) h = record { rule = r; after = encode rs; all = refl; less = refl; count = omega arith }
cut (suc m) (r ∷ rs) h =
    let c = cut m rs (omega (arith, h)) in
    let n = c.count in
    record {
      rule = c.rule;
      after = c.after;
      all = ap (λ (l : List ℕ). r.left ∷ length r.right ∷ (r.right ++ l)) c.all
          ∙ ap (λ (l : List ℕ). r.left ∷ length r.right ∷ l) (sym (append_assoc r.right (encode (take m rs)) (c.rule.left ∷ length c.rule.right ∷ (c.rule.right ++ c.after))));
      less = ap (λ (l : List ℕ). r.left ∷ length r.right ∷ (r.right ++ l)) c.less
          ∙ ap (λ (l : List ℕ). r.left ∷ length r.right ∷ l) (sym (append_assoc r.right (encode (take m rs)) c.after));
      count = omega (arith, n);
    }

-- lists: R taken out between A and C
taken_out : (a b x y : ℕ) (A R C T : List ℕ)
    → let row = a ∷ b ∷ x ∷ (A ++ (R ++ (C ++ T))) in let from = 3 + length A in
    set (paste row from (drop (from + length R) row) (length C)) 2 y ≡ splice row 2 (y ∷ (A ++ C))
taken_out a b x y A R C T =
    let P = a ∷ b ∷ x ∷ A in
    let row = a ∷ b ∷ x ∷ (A ++ (R ++ (C ++ T))) in
    let from = 3 + length A in
    let n : length P ≡ from = (let z : suc (suc (suc (length A))) ≡ 3 + length A = omega arith in z) in
    let p : take from row ≡ P = take_at P (R ++ (C ++ T)) from n in
    let q : drop (from + length R) row ≡ C ++ T = sym (drop-drop (length R) from row) ∙ ap (drop (length R)) (drop_at P (R ++ (C ++ T)) from n) ∙ drop-append_seam R (C ++ T) in
    let k = length-append A C in
    let m : from + length C ≡ 2 + suc (length (A ++ C)) = omega (arith, k) in
    ap (λ (l : List ℕ). set (l ++ take (length C) (drop (from + length R) row) ++ drop (from + length C) row) 2 y) p
    ∙ ap (λ (l : List ℕ). set (P ++ l ++ drop (from + length C) row) 2 y) (ap (take (length C)) q ∙ take-append_seam C T)
    ∙ ap (λ (m : ℕ). (a ∷ b ∷ y ∷ (A ++ C)) ++ drop m row) m

-- the front of a row
in-front : (row xs : List ℕ) (end : ℕ) → 2 ≤ length row → take end (drop 2 row) ≡ xs → row ≡ get_or row 0 0 ∷ get_or row 1 0 ∷ (xs ++ drop end (drop 2 row))
in-front (a ∷ b ∷ row) xs end h e = ap (λ (l : List ℕ). a ∷ b ∷ l) (sym (take-append-drop end row) ∙ ap (λ (l : List ℕ). l ++ drop end row) e)
in-front [] xs end h e = absurd (omega (arith, h))
in-front (a ∷ []) xs end h e = absurd (omega (arith, h))

module _ (row : List ℕ) (end : ℕ) (e : open_row row ≡ done end) where
  abbrev held : Open row end
  held = open_done row end e

  abbrev rules : List Rule
  rules = held.block.rules

  abbrev tail : List ℕ
  tail = drop end (drop 2 row)

  pub shape : row ≡ get_or row 0 0 ∷ get_or row 1 0 ∷ (length rules + 1) ∷ (encode rules ++ tail)
  shape = let r = held.room in in-front row (image rules) end (omega (arith, r)) held.block.front

  pub cell-counts : get_or row 2 0 ≡ length rules + 1
  cell-counts = ap (λ (l : List ℕ). get_or l 2 0) shape

  -- a number that no rule has
  pub withdraw_unknown : (i : ℕ) → (i < 1) ⊎ (get_or row 2 0 ≤ i) → stepped row (withdraw i) ≡ refused not_present i
  unfolding taken
  withdraw_unknown i u =
      let d = draft_with row rules in
      step-refused row (withdraw i) d not_present i held.held (unless_fails not_present i (leb 1 i && leb i (length rules)) (done (with_rules d (without (i - 1) rules))) (unknown u))
    where
      unknown : (i < 1) ⊎ (get_or row 2 0 ≤ i) → (leb 1 i && leb i (length rules)) ≡ false
      unknown (inl l) = ap (λ (b : Bool). b && leb i (length rules)) (lt-leb 1 i l)
      unknown (inr l) = let c = cell-counts in ap (λ (b : Bool). leb 1 i && b) (lt-leb i (length rules) (omega (arith, l, c))) ∙ and_false (leb 1 i)

  -- the block from its first rule on
  ahead : drop 1 (block_of row 0) ≡ encode rules ++ drop end (block_of row 0)
  ahead = ap (drop 1) (sym (take-append-drop end (block_of row 0)) ∙ ap (λ (l : List ℕ). l ++ drop end (block_of row 0)) (sym front ∙ held.block.front))
    where
      front : take end (drop 2 row) ≡ take end (block_of row 0)
      front = sym (take-take end block_size (drop 2 row) held.block.few)

  pub reaches : (i : ℕ) → 1 ≤ i → i < get_or row 2 0 → Reaches (block_of row 0) (i - 1)
  reaches i l h =
      let c = cell-counts in
      let r = held.room in
      let z : length (block_of row 0) ≡ block_size = length-take-le block_size (drop 2 row) (omega (arith, length-drop 2 row, r)) in
      record { end = _; walks = walk-along (i - 1) (block_of row 0) 1 rules (drop end (block_of row 0)) (omega (arith, l, h, c)) ahead; room = omega (arith, z) }

  module _ (i p : ℕ) (l : 1 ≤ i) (h : i < get_or row 2 0) (w : walk (i - 1) (block_of row 0) 1 ≡ some p) where
    abbrev found : Cut (i - 1) rules
    found = cut (i - 1) rules (let c = cell-counts in omega (arith, l, h, c))

    abbrev A : List ℕ
    A = encode (take (i - 1) rules)

    abbrev R : List ℕ
    R = found.rule.left ∷ length found.rule.right ∷ found.rule.right

    place : p ≡ 1 + length A
    place = let c = cell-counts in some_inj (sym w ∙ walk-along (i - 1) (block_of row 0) 1 rules (drop end (block_of row 0)) (omega (arith, l, h, c)) ahead)

    parted : row ≡ get_or row 0 0 ∷ get_or row 1 0 ∷ (length rules + 1) ∷ (A ++ (R ++ (found.after ++ tail)))
    parted =
        shape ∙ ap (λ (l : List ℕ). get_or row 0 0 ∷ get_or row 1 0 ∷ (length rules + 1) ∷ (l ++ tail)) found.all
        ∙ ap (λ (l : List ℕ). get_or row 0 0 ∷ get_or row 1 0 ∷ (length rules + 1) ∷ l) (append_assoc A (R ++ found.after) tail)
        ∙ ap (λ (l : List ℕ). get_or row 0 0 ∷ get_or row 1 0 ∷ (length rules + 1) ∷ (A ++ (found.rule.left ∷ length found.rule.right ∷ l))) (append_assoc found.rule.right found.after tail)

    from-there : drop (2 + p) row ≡ R ++ (found.after ++ tail)
    from-there =
        let q : length (get_or row 0 0 ∷ get_or row 1 0 ∷ (length rules + 1) ∷ A) ≡ 2 + p = (let z : suc (suc (suc (length A))) ≡ 2 + p = omega (arith, place) in z) in
        ap (drop (2 + p)) parted ∙ drop_at (get_or row 0 0 ∷ get_or row 1 0 ∷ (length rules + 1) ∷ A) (R ++ (found.after ++ tail)) (2 + p) q

    size : length_at row (2 + p) ≡ length found.rule.right
    size = (reads row (2 + p) found.rule.left (length found.rule.right) (found.rule.right ++ (found.after ++ tail)) from-there).second

    total : end ≡ 1 + (length A + (2 + length found.rule.right + length found.after))
    total =
        let s = held.block.size in
        let a = ap length found.all in
        let b = length-append A (R ++ found.after) in
        let c = length-append found.rule.right found.after in
        omega (arith, s, a, b, c)

    pub removable : Removable row (2 + p) end
    removable =
        let q = place in
        let s = size in
        let t = total in
        let c = cell-counts in
        let r = held.room in
        let f = held.block.few in
        record { past = omega (arith, q); whole = omega (arith, q, s, t); within = omega (arith, r, f); one = omega (arith, c) }

    pub withdraw-done : stepped row (withdraw i) ≡ done (removed row (2 + p) end)
    unfolding taken
    withdraw-done =
        let d = draft_with row rules in
        let c = cell-counts in
        step-done row (withdraw i) d (with_rules d (without (i - 1) rules)) held.held
        (unless_holds not_present i (leb 1 i && leb i (length rules)) (done (with_rules d (without (i - 1) rules)))
        (both_and (leb 1 i) (leb i (length rules)) (le-leb 1 i l) (le-leb i (length rules) (omega (arith, h, c)))))
        ∙ ap done (sym same)
      where
        same : removed row (2 + p) end ≡ put row 0 (without (i - 1) rules)
        same =
            let q = place in
            let s = size in
            let t = total in
            let c = cell-counts in
            let n = found.count in
            let x : 2 + p + 2 + length_at row (2 + p) ≡ 3 + length A + length R = omega (arith, q, s) in
            let y : 2 + end - (3 + length A + length R) ≡ length found.after = omega (arith, t) in
            let z : 2 + p ≡ 3 + length A = omega (arith, q) in
            let v : get_or row 2 0 - 1 ≡ length (without (i - 1) rules) + 1 = omega (arith, c, n) in
            ap (λ (m : ℕ). set (paste row (2 + p) (drop m row) (2 + end - m)) 2 (get_or row 2 0 - 1)) x
            ∙ ap (λ (m : ℕ). set (paste row (2 + p) (drop (3 + length A + length R) row) m) 2 (get_or row 2 0 - 1)) y
            ∙ ap (λ (m : ℕ). set (paste row m (drop (3 + length A + length R) row) (length found.after)) 2 (get_or row 2 0 - 1)) z
            ∙ ap (λ (m : ℕ). set (paste row (3 + length A) (drop (3 + length A + length R) row) (length found.after)) 2 m) v
            ∙ ap (λ (r : List ℕ). set (paste r (3 + length A) (drop (3 + length A + length R) r) (length found.after)) 2 (length (without (i - 1) rules) + 1)) parted
            ∙ taken_out (get_or row 0 0) (get_or row 1 0) (length rules + 1) (length (without (i - 1) rules) + 1) A R found.after tail
            ∙ ap (λ (r : List ℕ). splice r 2 ((length (without (i - 1) rules) + 1) ∷ (A ++ found.after))) (sym parted)
            ∙ ap (λ (l : List ℕ). splice row 2 ((length (without (i - 1) rules) + 1) ∷ l)) (sym found.less)
