-- The marks of a row: what a block keeps, and what marking and returning leave. Assumes nothing.
use Prim.Native.Nat.{ℕ, zero, suc, ◌+◌, ◌-◌, ◌*◌, ◌≤◌, ◌<◌}
use mathlib.Core.Path.{◌≡◌, ap, sym, ◌∙◌}
use mathlib.Core.Bool.{Bool, true, false, ◌&&◌}
use mathlib.Core.List.{List}
use mathlib.Core.Option.{none, some}
use mathlib.Core.Logic.{◌⊎◌, inl, inr}
use native.Mathlib.Omega.{arith}
use lib.Dec.{leb}
use lib.ListN.{length, get_or, drop, length-drop}
use lib.Seq.{paste}
use borrow.Author.Tests.{le-leb, lt-leb}
use Rattle.grammar.specs.Grammar.{Rule}
use Rattle.grammar.specs.Refusal.{done, refused, not_present}
use Rattle.grammar.proofs.Answers.{both_and, and_false, unless_holds, unless_fails}
use Rattle.drafts.specs.Draft.{mark, return, with_mark, with_rules, kept, restored, taken, marks_count, is_mark}
use Rattle.drafts.specs.Row.{block_size, block_at, block_of, end_of, rules_in, marks_from, draft_with, image, stepped}
use Rattle.drafts.specs.Edits.{Apart, open_row}
use Rattle.drafts.proofs.Walks.{held_none}
use Rattle.drafts.proofs.Copies.{pasted}
use Rattle.drafts.proofs.Opens.{in_block, open_done, step-done, step-refused}

-- ---- marks

pub marks_at : (m j i : ℕ) (row : List ℕ) → i < m → get_or (marks_from m j row) i none ≡ rules_in (block_of row (j + i))
unfolding marks_from
marks_at zero j i row h = absurd (omega arith)
marks_at (suc m) j zero row h = let z : j ≡ j + 0 = omega arith in ap (λ (k : ℕ). rules_in (block_of row k)) z
marks_at (suc m) j (suc i) row h =
    let z : j + 1 + i ≡ j + suc i = omega arith in
    marks_at m (j + 1) i row (omega arith) ∙ ap (λ (k : ℕ). rules_in (block_of row k)) z

pub kept_at : (row : List ℕ) (rs : List Rule) (k : ℕ) → 1 ≤ k → k ≤ marks_count → kept (draft_with row rs) k ≡ rules_in (block_of row k)
kept_at row rs k l h =
    let z : 1 + (k - 1) ≡ k = omega (arith, l) in
    marks_at marks_count 1 (k - 1) row (omega (arith, l, h)) ∙ ap (λ (k : ℕ). rules_in (block_of row k)) z

-- a mark's number
known : (k : ℕ) → 1 ≤ k → k ≤ marks_count → is_mark k ≡ true
known k l h = both_and (leb 1 k) (leb k marks_count) (le-leb 1 k l) (le-leb k marks_count h)

unknown : (k : ℕ) → (k < 1) ⊎ ((1 ≤ k) × (marks_count < k)) → is_mark k ≡ false
unknown k (inl l) = ap (λ (b : Bool). b && leb k marks_count) (lt-leb 1 k l)
unknown k (inr l) = ap (λ (b : Bool). leb 1 k && b) (lt-leb k marks_count l.1) ∙ and_false (leb 1 k)

pub mark_unknown : (row : List ℕ) (end k : ℕ) → open_row row ≡ done end → (k < 1) ⊎ ((1 ≤ k) × (marks_count < k)) → stepped row (mark k) ≡ refused not_present k
unfolding taken
mark_unknown row end k e u =
    let o = open_done row end e in
    let d = draft_with row o.block.rules in
    step-refused row (mark k) d not_present k o.held (unless_fails not_present k (is_mark k) (done (with_mark d k)) (unknown k u))

pub return_unknown : (row : List ℕ) (end k : ℕ) → open_row row ≡ done end → (k < 1) ⊎ ((1 ≤ k) × (marks_count < k)) → stepped row (return k) ≡ refused not_present k
unfolding taken
return_unknown row end k e u =
    let o = open_done row end e in
    let d = draft_with row o.block.rules in
    step-refused row (return k) d not_present k o.held (unless_fails not_present k (is_mark k) (restored d k (kept d k)) (unknown k u))

-- the front of block 0 copied to block k is the row with the mark set
pub mark-done : (row : List ℕ) (end k : ℕ) (e : open_row row ≡ done end) → 1 ≤ k → k ≤ marks_count
    → stepped row (mark k) ≡ done (paste row (block_at k) (drop 2 row) end)
unfolding taken
mark-done row end k e l h =
    let o = open_done row end e in
    let b = o.block in
    let d = draft_with row b.rules in
    let r = o.room in
    let f = b.few in
    step-done row (mark k) d (with_mark d k) o.held (unless_holds not_present k (is_mark k) (done (with_mark d k)) (known k l h))
    ∙ ap done (sym (pasted row (drop 2 row) (image b.rules) (block_at k) end (omega (arith, length-drop 2 row, r, f)) b.front))

-- an empty mark
pub return-nothing : (row : List ℕ) (end k : ℕ) → open_row row ≡ done end → 1 ≤ k → k ≤ marks_count → end_of (block_of row k) ≡ none → stepped row (return k) ≡ refused not_present k
unfolding taken
return-nothing row end k e l h q =
    let o = open_done row end e in
    let rs = o.block.rules in
    let d = draft_with row rs in
    step-refused row (return k) d not_present k o.held
    (unless_holds not_present k (is_mark k) (restored d k (kept d k)) (known k l h)
    ∙ ap (restored d k) (kept_at row rs k l h ∙ held_none (block_of row k) q))

-- the front of block k copied to block 0 is the row returned to
pub return-done : (row : List ℕ) (end k last : ℕ) → open_row row ≡ done end → 1 ≤ k → k ≤ marks_count → end_of (block_of row k) ≡ some last
    → stepped row (return k) ≡ done (paste row 2 (drop (block_at k) row) last)
unfolding taken
return-done row end k last e l h q =
    let o = open_done row end e in
    let rs = o.block.rules in
    let d = draft_with row rs in
    let r = o.room in
    let b = in_block row k last (omega (arith, r, h)) q in
    let f = b.few in
    step-done row (return k) d (with_rules d b.rules) o.held
    (unless_holds not_present k (is_mark k) (restored d k (kept d k)) (known k l h) ∙ ap (restored d k) (kept_at row rs k l h ∙ b.found))
    ∙ ap done (sym (pasted row (drop (block_at k) row) (image b.rules) 2 last (omega (arith, length-drop (block_at k) row, r, f, h)) b.front))

-- ---- what is copied lies apart from where it goes

pub mark_apart : (row : List ℕ) (end k : ℕ) → open_row row ≡ done end → 1 ≤ k → k ≤ marks_count → Apart 2 (2 + k * block_size) end (length row)
mark_apart row end k e l h =
    let o = open_done row end e in
    let r = o.room in
    let f = o.block.few in
    record { source = omega (arith, r, f); goal = omega (arith, r, f, h); order = inr (omega (arith, f, l)) }

pub return_apart : (row : List ℕ) (end k last : ℕ) → open_row row ≡ done end → k ≤ marks_count → end_of (block_of row k) ≡ some last → Apart (2 + k * block_size) 2 last (length row)
return_apart row end k last e h q =
    let r = (open_done row end e).room in
    let f = (in_block row k last (omega (arith, r, h)) q).few in
    record { source = omega (arith, r, f, h); goal = omega (arith, r, f); order = inl (omega arith) }

pub open_holds : (row : List ℕ) (end k : ℕ) → open_row row ≡ done end → k ≤ marks_count → 2 + k * block_size + block_size ≤ length row
open_holds row end k e h = let r = (open_done row end e).room in omega (arith, r, h)
