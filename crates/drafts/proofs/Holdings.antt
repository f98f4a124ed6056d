-- What a row that holds a draft says, and what it holds after rules were written into a block. Assumes nothing.
use Prim.Native.Nat.{ℕ, zero, suc, ◌+◌, ◌-◌, ◌≤◌, ◌<◌}
use mathlib.Core.Path.{◌≡◌, refl, ap, sym, ◌∙◌}
use mathlib.Core.List.{List}
use mathlib.Core.Option.{Option, none, some}
use native.Mathlib.Omega.{arith}
use native.Mathlib.Decide.{ℕ_discrete}
use lib.Dec.{leb}
use lib.ListN.{length, get_or, set, drop, length-drop, length-set}
use lib.Seq.{length-take-le, ext_get_or, get_or-set_same, get_or-set_other}
use borrow.Author.Tests.{le-leb, leb-true}
use Rattle.grammar.specs.Grammar.{Rule}
use Rattle.grammar.specs.Table.{encode}
use Rattle.grammar.specs.Refusal.{done, buffer_too_short}
use Rattle.grammar.proofs.Answers.{unless_holds, unless_done, done_inj, no_answer}
use Rattle.drafts.specs.Draft.{Draft, with_mark, with_rules, marks_count}
use Rattle.drafts.specs.Row.{block_size, block_at, draft_room, block_of, end_of, rules_to, rules_in, marks_from, draft_with, draft_or, draft_in, image, put}
use Rattle.drafts.proofs.Walks.{held-block, some_inj}
use Rattle.drafts.proofs.Marks.{marks_at}
use Rattle.drafts.proofs.Puts.{put-length, put-cells, put-block, put_other}

-- ---- what a row that holds a draft says

pub record Holding (row : List ℕ) (d : Draft) : Type 0 where
  pub room : draft_room ≤ length row
  pub rules : rules_in (block_of row 0) ≡ some d.rules
  pub same : d ≡ draft_with row d.rules

pub holding : (row : List ℕ) (d : Draft) → draft_in row ≡ done d → Holding row d
unfolding draft_in
holding row d e =
    let u = unless_done buffer_too_short 0 (leb draft_room (length row)) (draft_or row (rules_in (block_of row 0))) d e in
    go (rules_in (block_of row 0)) refl (leb-true draft_room (length row) u.0) u.1
  where
    go : (o : Option (List Rule)) → rules_in (block_of row 0) ≡ o → draft_room ≤ length row → draft_or row o ≡ done d → Holding row d
    go none q h w = no_answer w
    go (some rs) q h w =
        let z : draft_with row rs ≡ d = done_inj w in
        let r : rs ≡ d.rules = ap (λ (d : Draft). d.rules) z in
        record { room = h; rules = q ∙ ap some r; same = sym z ∙ ap (draft_with row) r }

pub holds_back : (row : List ℕ) (rs : List Rule) → draft_room ≤ length row → rules_in (block_of row 0) ≡ some rs → draft_in row ≡ done (draft_with row rs)
unfolding draft_in
holds_back row rs h e = unless_holds buffer_too_short 0 (leb draft_room (length row)) (draft_or row (rules_in (block_of row 0))) (le-leb draft_room (length row) h) ∙ ap (draft_or row) e

-- rules that a block holds fit into a block
pub fits_in : (block : List ℕ) (rs : List Rule) → length block ≤ block_size → rules_in block ≡ some rs → length (image rs) ≤ block_size
fits_in block rs h e = go (end_of block) refl
  where
    go : (o : Option ℕ) → end_of block ≡ o → length (image rs) ≤ block_size
    go none q = no_rules (sym (ap (rules_to block) q) ∙ e)
      where
        no_rules : none ≡ some rs → length (image rs) ≤ block_size
        no_rules w = let z : ◌≡◌ {A = ℕ} 0 1 = cc in absurd (let o : ⊥ = omega arith in o)
    go (some end) q =
        let b = held-block block end q in
        let z : length (encode rs) ≡ length (encode b.rules) = ap (λ (l : List Rule). length (encode l)) (some_inj (sym e ∙ b.found)) in
        let s = b.size in
        let w = b.within in
        omega (arith, z, s, w, h)

pub block_size_lem : (row : List ℕ) (k : ℕ) → draft_room ≤ length row → k ≤ marks_count → length (block_of row k) ≡ block_size
block_size_lem row k h l = length-take-le block_size (drop (block_at k) row) (omega (arith, length-drop (block_at k) row, h, l))

-- ---- marks after a write

pub marks_length : (m j : ℕ) (row : List ℕ) → length (marks_from m j row) ≡ m
unfolding marks_from
marks_length zero j row = refl
marks_length (suc m) j row = ap suc (marks_length m (j + 1) row)

pub draft_path : {d e : Draft} → d.terminals ≡ e.terminals → d.nonterminals ≡ e.nonterminals → d.rules ≡ e.rules → d.marks ≡ e.marks → d ≡ e
draft_path p q r s = λ i. record { terminals = p i; nonterminals = q i; rules = r i; marks = s i }

module _ (row : List ℕ) (rs : List Rule) (room : draft_room ≤ length row) (fits : length (image rs) ≤ block_size) where
  -- the draft's own block: marks stay
  marks_same : marks_from marks_count 1 (put row 0 rs) ≡ marks_from marks_count 1 row
  marks_same =
      ext_get_or none (marks_from marks_count 1 (put row 0 rs)) (marks_from marks_count 1 row) (marks_length marks_count 1 (put row 0 rs) ∙ sym (marks_length marks_count 1 row)) (λ i h.
      let l : i < marks_count = omega (arith, h, marks_length marks_count 1 (put row 0 rs)) in
      marks_at marks_count 1 i (put row 0 rs) l ∙ ap rules_in (put_other row 0 rs room (omega arith) fits (1 + i) (omega (arith, l)) (λ q. omega (arith, q))) ∙ sym (marks_at marks_count 1 i row l))

  pub put-draft : (old : List Rule) → draft_in (put row 0 rs) ≡ done (with_rules (draft_with row old) rs)
  put-draft old =
      let n = put-length row 0 rs room (omega arith) fits in
      holds_back (put row 0 rs) rs (omega (arith, n, room)) (put-block row 0 rs room (omega arith) fits)
      ∙ ap done (draft_path (put-cells row 0 rs room (omega arith) fits 0 (omega arith)) (put-cells row 0 rs room (omega arith) fits 1 (omega arith)) refl marks_same)

  -- a mark's block: that mark alone is set
  marks_set : (k : ℕ) → 1 ≤ k → k ≤ marks_count → marks_from marks_count 1 (put row k rs) ≡ set (marks_from marks_count 1 row) (k - 1) (some rs)
  marks_set k l h =
      let m = marks_length marks_count 1 row in
      ext_get_or none (marks_from marks_count 1 (put row k rs)) (set (marks_from marks_count 1 row) (k - 1) (some rs))
      (marks_length marks_count 1 (put row k rs) ∙ sym (length-set (marks_from marks_count 1 row) (k - 1) (some rs) ∙ m)) (λ i b.
      let c : i < marks_count = omega (arith, b, marks_length marks_count 1 (put row k rs)) in
      marks_at marks_count 1 i (put row k rs) c ∙ elim (ℕ_discrete i (k - 1)) [
        | yes q ↦
            let z : 1 + i ≡ k = omega (arith, q, l) in
            ap (λ (j : ℕ). rules_in (block_of (put row k rs) j)) z ∙ put-block row k rs room h fits
            ∙ sym (ap (λ (j : ℕ). get_or (set (marks_from marks_count 1 row) (k - 1) (some rs)) j none) q ∙ get_or-set_same (marks_from marks_count 1 row) (k - 1) (some rs) none (omega (arith, m, l, h)))
        | no ne ↦
            ap rules_in (put_other row k rs room h fits (1 + i) (omega (arith, c)) (λ q. ne (omega (arith, q)))) ∙ sym (marks_at marks_count 1 i row c)
            ∙ sym (get_or-set_other (marks_from marks_count 1 row) (k - 1) i (some rs) none ne)
      ])

  pub put-mark : (k : ℕ) → 1 ≤ k → k ≤ marks_count → rules_in (block_of row 0) ≡ some rs → draft_in (put row k rs) ≡ done (with_mark (draft_with row rs) k)
  put-mark k l h e =
      let n = put-length row k rs room h fits in
      holds_back (put row k rs) rs (omega (arith, n, room)) (ap rules_in (put_other row k rs room h fits 0 (omega arith) (λ q. omega (arith, q, l))) ∙ e)
      ∙ ap done (draft_path (put-cells row k rs room h fits 0 (omega arith)) (put-cells row k rs room h fits 1 (omega arith)) refl (marks_set k l h))
