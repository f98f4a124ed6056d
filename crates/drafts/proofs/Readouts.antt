-- The draft's table and its numbers, read out of a row. Assumes nothing.
use Prim.Native.Nat.{ℕ, zero, suc, ◌+◌, ◌-◌, ◌≤◌}
use mathlib.Core.Path.{◌≡◌, ap, sym, ◌∙◌, ap₂, refl}
use mathlib.Core.List.{List, [], ◌∷◌}
use native.Mathlib.Omega.{arith}
use lib.ListN.{length, take, drop, get_or}
use lib.Seq.{drop-drop, get_or-take, get_or-drop}
use Rattle.grammar.specs.Table.{encode}
use Rattle.grammar.specs.Refusal.{done, refused, Answer}
use Rattle.grammar.specs.Grammar.{Rule, state_count}
use Rattle.grammar.proofs.Answers.{done_inj, no_answer}
use Rattle.grammar.specs.declared.Cause.{Cause}
use Rattle.drafts.specs.Row.{block_size, draft_room, draft_in, draft_with, table_at}
use Rattle.drafts.specs.Edits.{open_row}
use Rattle.drafts.specs.Reading.{table_or, counted, placed}
use Rattle.drafts.specs.Draft.{Draft}
use Rattle.drafts.specs.declared.DraftCounts.TheVariants.{Counts}
use Rattle.drafts.specs.declared.TablePlace.TheVariants.{Stands}
use Rattle.drafts.proofs.Opens.{open_done, open_refused}
use Rattle.drafts.proofs.Begins.{table_fits}

-- ---- the draft's table

rest_of : (end : ℕ) (xs ys : List ℕ) (x : ℕ) → take end xs ≡ x ∷ ys → take (end - 1) (drop 1 xs) ≡ ys
rest_of zero xs ys x e = let z : ◌≡◌ {A = ℕ} 0 1 = cc in absurd (let o : ⊥ = omega arith in o)
rest_of (suc end) [] ys x e = let z : ◌≡◌ {A = ℕ} 0 1 = cc in absurd (let o : ⊥ = omega arith in o)
rest_of (suc end) (a ∷ xs) ys x e =
    let q : suc end - 1 ≡ end = omega arith in
    ap (λ (m : ℕ). take m xs) q ∙ (let z : take end xs ≡ ys = cc in z)

pub table_none : (row : List ℕ) (c : Cause) (p : ℕ) → open_row row ≡ refused c p → table_or (draft_in row) ≡ []
table_none row c p e = ap table_or (open_refused row c p e)

pub table-held : (row : List ℕ) (end : ℕ) → open_row row ≡ done end → take (2 + end - 3) (drop 3 row) ≡ table_or (draft_in row)
table-held row end e =
    let o = open_done row end e in
    let q : 2 + end - 3 ≡ end - 1 = omega arith in
    ap (λ (m : ℕ). take m (drop 3 row)) q ∙ ap (take (end - 1)) (sym (drop-drop 1 2 row)) ∙ rest_of end (drop 2 row) (encode o.block.rules) _ o.block.front
    ∙ sym (ap table_or o.held)

pub table-room : (row : List ℕ) (end : ℕ) → open_row row ≡ done end → (1 ≤ end) × (end ≤ block_size) × (draft_room ≤ length row)
table-room row end e =
    let o = open_done row end e in
    let s = o.block.size in
    let f = o.block.few in
    let r = o.room in
    (omega (arith, s), omega (arith, f), omega (arith, r))

-- ---- its numbers and its place

-- the first entry of the draft's block counts its rules
cell-held : (row : List ℕ) (end : ℕ) (e : open_row row ≡ done end) → get_or row 2 0 ≡ length (open_done row end e).block.rules + 1
cell-held row end e =
    let o = open_done row end e in
    let s = o.block.size in
    let f : get_or (take end (drop 2 row)) 0 0 ≡ length o.block.rules + 1 = ap (λ (l : List ℕ). get_or l 0 0) o.block.front in
    sym (get_or-take end (drop 2 row) 0 0 (omega (arith, s)) ∙ get_or-drop 2 row 0 0) ∙ f

pub record Counted (row : List ℕ) (end : ℕ) : Type 0 where
  pub cell : 1 ≤ get_or row 2 0
  pub less : get_or row 2 0 - 1 ≤ end - 1 + 4
  pub counts : counted (draft_in row) ≡ Counts (get_or row 0 0) (get_or row 1 0) (get_or row 2 0 - 1) (end - 1) (end - 1 + 4 - (get_or row 2 0 - 1))
  pub place : placed (draft_in row) ≡ Stands table_at (end - 1)

pub counts-held : (row : List ℕ) (end : ℕ) → open_row row ≡ done end → Counted row end
counts-held row end e =
    let o = open_done row end e in
    let rs = o.block.rules in
    let s = o.block.size in
    let c = cell-held row end e in
    let f = table_fits rs in
    let x : length rs ≡ get_or row 2 0 - 1 = omega (arith, c) in
    let y : length (encode rs) ≡ end - 1 = omega (arith, s) in
    let z : state_count rs ≡ end - 1 + 4 - (get_or row 2 0 - 1) = omega (arith, c, s, f) in
    record {
      cell = omega (arith, c);
      less = omega (arith, c, s, f);
      counts = ap counted o.held ∙ ap₂ (λ (a b : ℕ). Counts (get_or row 0 0) (get_or row 1 0) a b (state_count rs)) x y
          ∙ ap (Counts (get_or row 0 0) (get_or row 1 0) (get_or row 2 0 - 1) (end - 1)) z;
      place = ap placed o.held ∙ ap (Stands table_at) y;
    }

-- the place tells the table
pub place_tells : (row : List ℕ) (d : Draft) → draft_in row ≡ done d → take (length (encode d.rules)) (drop table_at row) ≡ encode d.rules
place_tells row d e = go (open_row row) refl
  where
    go : (o : Answer ℕ) → open_row row ≡ o → take (length (encode d.rules)) (drop table_at row) ≡ encode d.rules
    go (refused c p) q = no_answer (sym (open_refused row c p q) ∙ e)
    go (done end) q =
        let o = open_done row end q in
        let g : draft_with row o.block.rules ≡ d = done_inj (sym o.held ∙ e) in
        let r : o.block.rules ≡ d.rules = ap (λ (d : Draft). d.rules) g in
        let s = o.block.size in
        let z : length (encode d.rules) ≡ 2 + end - 3 = sym (ap (λ (l : List Rule). length (encode l)) r) ∙ (let y : length (encode o.block.rules) ≡ 2 + end - 3 = omega (arith, s) in y) in
        ap (λ (m : ℕ). take m (drop 3 row)) z ∙ table-held row end q ∙ ap table_or e
