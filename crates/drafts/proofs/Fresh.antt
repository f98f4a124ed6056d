-- A row that was begun holds the new draft. Assumes nothing.
use Prim.Native.Nat.{ℕ, zero, suc, ◌+◌, ◌-◌, ◌≤◌, ◌<◌}
use mathlib.Core.Path.{◌≡◌, refl, ap, sym, ◌∙◌}
use mathlib.Core.List.{List, ◌∷◌}
use mathlib.Core.Option.{none, some}
use mathlib.Core.Logic.{inl, inr}
use native.Mathlib.Omega.{arith}
use native.Mathlib.Decide.{ℕ_discrete}
use lib.Dec.{leb}
use lib.ListN.{length, get_or, set, take, drop, replicate, get_or-replicate}
use lib.Seq.{ext_get_or, get_or-take, get_or-drop, get_or-set_same, get_or-set_other}
use borrow.Author.Tests.{leb-true}
use Rattle.grammar.specs.Limits.{limits}
use Rattle.grammar.specs.Grammar.{Rule}
use Rattle.grammar.specs.Refusal.{done, buffer_too_short}
use Rattle.grammar.specs.TableCheck.{stored_table}
use Rattle.grammar.proofs.Answers.{unless_done, then-done, done_inj}
use Rattle.grammar.proofs.Lists.{lt_or_le}
use Rattle.drafts.specs.Draft.{Draft, marks_count, new_draft}
use Rattle.drafts.specs.Row.{block_size, block_at, draft_room, block_of, rules_to, rules_in, marks_from, draft_in, splice, image, begun, emptied, new_row}
use Rattle.drafts.proofs.Walks.{end_none}
use Rattle.drafts.proofs.Marks.{marks_at}
use Rattle.drafts.proofs.Begins.{table_fits}
use Rattle.drafts.proofs.Puts.{part_same, take-over, holds_image, splice-length}
use Rattle.drafts.proofs.Entries.{emptied-length}
use Rattle.drafts.proofs.Holdings.{marks_length, draft_path, holds_back}
use Rattle.drafts.proofs.Sound.{new_sound}

emptied-front : (m : ℕ) (row : List ℕ) (i : ℕ) → i < 2 + block_size → get_or (emptied m row) i 0 ≡ get_or row i 0
unfolding emptied
emptied-front zero row i h = refl
emptied-front (suc m) row i h = get_or-set_other (emptied m row) (block_at (suc m)) i 0 0 (λ q. omega (arith, q, h)) ∙ emptied-front m row i h

emptied-cell : (m : ℕ) (row : List ℕ) (k : ℕ) → draft_room ≤ length row → m ≤ marks_count → 1 ≤ k → k ≤ m → get_or (emptied m row) (block_at k) 0 ≡ 0
unfolding emptied
emptied-cell zero row k r b l h = absurd (omega (arith, l, h))
emptied-cell (suc m) row k r b l h = elim (ℕ_discrete k (suc m)) [
  | yes q ↦
      let n = emptied-length m row in
      ap (λ (j : ℕ). get_or (set (emptied m row) (block_at (suc m)) 0) (block_at j) 0) q ∙ get_or-set_same (emptied m row) (block_at (suc m)) 0 0 (omega (arith, n, r, b))
  | no ne ↦ get_or-set_other (emptied m row) (block_at (suc m)) (block_at k) 0 0 (λ q. ne (omega (arith, q))) ∙ emptied-cell m row k r (omega (arith, b)) l (below ne)
]
  where
    below : (k ≡ suc m → ⊥) → k ≤ m
    below ne = elim (lt_or_le k (suc m)) [ inl c ↦ omega (arith, c) | inr c ↦ absurd (ne (omega (arith, c, h))) ]

new_holds : (row : List ℕ) (t n : ℕ) (rs : List Rule) → draft_room ≤ length row → length (image rs) ≤ block_size
    → let d : Draft = record { terminals = t; nonterminals = n; rules = rs; marks = replicate marks_count none } in draft_in (begun row d) ≡ done d
new_holds row t n rs r f =
    let X = splice row 0 (t ∷ n ∷ image rs) in
    let D = drop (0 + length (t ∷ n ∷ image rs)) row in
    let xl : length X ≡ length row = splice-length row (t ∷ n ∷ image rs) 0 (omega (arith, r, f)) in
    let Y = emptied marks_count X in
    let yl : length Y ≡ length X = emptied-length marks_count X in
    let b0 : block_of Y 0 ≡ block_of X 0 = part_same Y X 2 block_size (omega (arith, yl, xl, r)) (omega (arith, xl, r)) (λ i h. emptied-front marks_count X (2 + i) (omega (arith, h))) in
    let held : rules_in (block_of Y 0) ≡ some rs = ap rules_in (b0 ∙ take-over block_size (image rs) D f) ∙ holds_image rs (take (block_size - length (image rs)) D) in
    let ms : marks_from marks_count 1 Y ≡ replicate marks_count none
    = ext_get_or none (marks_from marks_count 1 Y) (replicate marks_count none) (marks_length marks_count 1 Y) (λ i h.
    let l : i < marks_count = omega (arith, h, marks_length marks_count 1 Y) in
    let z : 1 + i ≤ marks_count = omega (arith, l) in
    let u : get_or (block_of Y (1 + i)) 0 0 ≡ get_or Y (block_at (1 + i) + 0) 0 = get_or-take block_size (drop (block_at (1 + i)) Y) 0 0 (omega arith) ∙ get_or-drop (block_at (1 + i)) Y 0 0 in
    let v : block_at (1 + i) + 0 ≡ block_at (1 + i) = omega arith in
    let w : get_or Y (block_at (1 + i)) 0 ≡ 0 = emptied-cell marks_count X (1 + i) (omega (arith, xl, r)) (omega arith) (omega arith) z in
    let y : get_or (block_of Y (1 + i)) 0 0 ≡ 0 = u ∙ ap (λ (j : ℕ). get_or Y j 0) v ∙ w in
    marks_at marks_count 1 i Y l ∙ ap (rules_to (block_of Y (1 + i))) (end_none (block_of Y (1 + i)) (omega (arith, y))) ∙ sym (get_or-replicate marks_count i none none l)) in
    holds_back Y rs (omega (arith, yl, xl, r)) held ∙ ap done (draft_path (emptied-front marks_count X 0 (omega arith)) (emptied-front marks_count X 1 (omega arith)) refl ms)

-- ---- a new draft

new_marks : (t n : ℕ) (table : List ℕ) (d : Draft) → new_draft limits t n table ≡ done d → d.marks ≡ replicate marks_count none
unfolding new_draft
new_marks t n table d e = ap (λ (d : Draft). d.marks) (sym (done_inj (then-done (stored_table limits t n table) _ d e).2))

-- the row that is begun holds the new draft
pub begun_holds : (t n : ℕ) (table before row : List ℕ) → new_row t n table before ≡ done row
    → (d : Draft) × (new_draft limits t n table ≡ done d) × (draft_in row ≡ done d)
unfolding new_row
begun_holds t n table before row e =
    let v = then-done (new_draft limits t n table) _ row e in
    let d = v.0 in
    let u = unless_done buffer_too_short 0 (leb draft_room (length before)) (done (begun before d)) row v.2 in
    let r : draft_room ≤ length before = leb-true draft_room (length before) u.0 in
    let s = new_sound t n table d v.1 in
    let c = s.own.count in
    let z = s.own.size in
    let f = table_fits d.rules in (
      d,
      v.1,
      ap draft_in (sym (done_inj u.1)) ∙ new_holds before d.terminals d.nonterminals d.rules r (omega (arith, c, z, f))
          ∙ ap done (draft_path refl refl refl (sym (new_marks t n table d v.1))),
    )
