-- A rule tried: the draft's table and the entries past it in one row, where the rule is the next one. Assumes nothing.
use Prim.Native.Nat.{ℕ, ◌+◌, ◌-◌, ◌≤◌}
use mathlib.Core.Path.{◌≡◌, ap, ap₂, sym, ◌∙◌}
use mathlib.Core.List.{List, ◌++◌}
use mathlib.Core.Logic.{inl, inr}
use native.Mathlib.Omega.{arith}
use lib.ListN.{length, get_or, take, drop, length-drop, length-append}
use lib.Seq.{take_all, take-paste, length-paste, paste, take-append_seam, length-take-le}
use Rattle.grammar.specs.Table.{encode}
use Rattle.grammar.specs.Refusal.{Answer, done}
use Rattle.grammar.proofs.Answers.{then-goes}
use Rattle.grammar.proofs.Lists.{lt_or_le}
use Rattle.table_check.specs.Clauses.{next_or_full}
use Rattle.drafts.specs.Draft.{Draft}
use Rattle.drafts.specs.Row.{draft_with, draft_in, block_size}
use Rattle.drafts.specs.Edits.{add_read, entries_read, try_room, longest, open_row, Led}
use Rattle.drafts.specs.Reading.{table_or}
use Rattle.drafts.proofs.Readouts.{table-held, table-room}
use Rattle.drafts.proofs.Removals.{cell-counts}
use Rattle.drafts.proofs.Opens.{open_done}
use Rattle.drafts.proofs.Adds.{looked_cut, looked-all}

-- ---- the table that is tried

few-taken : (es : List ℕ) (m : ℕ) → m ≡ entries_read (length es) → (m ≤ length es) × (m ≤ longest) × (take m es ≡ take longest es)
few-taken es m e = elim (lt_or_le longest (length es)) [
  | inl b ↦ let z : m ≡ longest = e ∙ sym (looked_cut (length es) b) in (omega (arith, z, b), omega (arith, z), ap (λ (n : ℕ). take n es) z)
  | inr b ↦ let z : m ≡ length es = e ∙ sym (looked-all (length es) b) in (omega (arith, z), omega (arith, z, b), ap (λ (n : ℕ). take n es) z ∙ take_all (length es) es (omega arith) ∙ sym (take_all longest es b))
]

pub record Gathered (row es T1 : List ℕ) (end m : ℕ) : Type 0 where
  pub size : length T1 ≡ try_room
  pub few : (m ≤ length es) × (m ≤ longest)
  pub fits : (1 ≤ end) × (end ≤ block_size)
  pub all : take (end - 1 + m) (paste T1 (end - 1) es m) ≡ table_or (draft_in row) ++ take longest es

pub gathered : (row es T0 T1 : List ℕ) (end m : ℕ) → open_row row ≡ done end → length T0 ≡ try_room → T1 ≡ paste T0 0 (take (2 + end - 3) (drop 3 row)) (end - 1)
    → m ≡ entries_read (length es) → Gathered row es T1 end m
gathered row es T0 T1 end m e l q f =
    let r = table-room row end e in
    let P = take (2 + end - 3) (drop 3 row) in
    let E = table_or (draft_in row) in
    let pe : P ≡ E = table-held row end e in
    let d3 = length-drop 3 row in
    let pl : length P ≡ 2 + end - 3 = length-take-le (2 + end - 3) (drop 3 row) (omega (arith, d3, r.1, r.2)) in
    let el : length E ≡ end - 1 = sym (ap length pe) ∙ pl ∙ (let z : 2 + end - 3 ≡ end - 1 = omega arith in z) in
    let s : length T1 ≡ try_room = ap length q ∙ length-paste T0 0 P (end - 1) (omega (arith, l, r.1)) (omega (arith, pl, r.0)) ∙ l in
    let w = few-taken es m f in
    let z0 : end - 1 ≡ 0 + (end - 1) = omega arith in
    let t1 : take (end - 1) T1 ≡ E
    = ap (take (end - 1)) q ∙ ap (λ (n : ℕ). take n (paste T0 0 P (end - 1))) z0 ∙ take-paste T0 0 P (end - 1) (omega arith) (omega (arith, pl, r.0))
    ∙ ap (take (end - 1)) pe ∙ take_all (end - 1) E (omega (arith, el)) in
    let t2 : take (end - 1 + m) (paste T1 (end - 1) es m) ≡ E ++ take longest es
    = take-paste T1 (end - 1) es m (omega (arith, s, r.1)) w.0 ∙ ap₂ (λ (a b : List ℕ). a ++ b) t1 w.2 in
    record {
      size = s;
      few = (w.0, w.1);
      fits = (r.0, r.1);
      all = t2;
    }

-- the rule is the next one of a table, led by the draft's rules
pub record Trying (row es T : List ℕ) (end m count : ℕ) : Type 0 where
  pub led : Led (take (end - 1 + m) T) count (end - 1)
  pub reads : next_or_full (get_or row 0 0) (get_or row 1 0) (take (end - 1 + m) T) count (end - 1) ≡ add_read row es

pub trying : (row es T1 T2 : List ℕ) (end m count : ℕ) → open_row row ≡ done end → Gathered row es T1 end m
    → T2 ≡ paste T1 (end - 1) es m → count ≡ get_or row 2 0 - 1 → Trying row es T2 end m count
unfolding add_read
trying row es T1 T2 end m count e a q c =
    let o = open_done row end e in
    let rs = o.block.rules in
    let E = encode rs in
    let s = o.block.size in
    let at : end - 1 ≡ length E = omega (arith, s) in
    let cell = cell-counts row end e in
    let size : length rs ≡ count = omega (arith, cell, c) in
    let all : take (end - 1 + m) T2 ≡ E ++ take longest es
    = ap (take (end - 1 + m)) q ∙ a.all ∙ ap (λ (d : Answer Draft). table_or d ++ take longest es) o.held in
    let len = length-append E (take longest es) in
    let lall : length (take (end - 1 + m) T2) ≡ length (E ++ take longest es) = ap length all in
    record {
      led = record {
        rules = rs;
        front = ap₂ (λ (n : ℕ) (l : List ℕ). take n l) at all ∙ take-append_seam E (take longest es);
        size = size;
        within = omega (arith, lall, len, at);
      };
      reads =
          ap₂ (λ (c j : ℕ). next_or_full (get_or row 0 0) (get_or row 1 0) (take (end - 1 + m) T2) c j) (sym size) at
          ∙ ap (λ (l : List ℕ). next_or_full (get_or row 0 0) (get_or row 1 0) l (length rs) (length E)) all
          ∙ sym (then-goes (draft_in row) _ (draft_with row rs) o.held);
    }

pub part_fits : (row : List ℕ) (end : ℕ) → open_row row ≡ done end → end - 1 ≤ length (take (2 + end - 3) (drop 3 row))
part_fits row end e =
    let r = table-room row end e in
    let d3 = length-drop 3 row in
    let pl : length (take (2 + end - 3) (drop 3 row)) ≡ 2 + end - 3 = length-take-le (2 + end - 3) (drop 3 row) (omega (arith, d3, r.1, r.2)) in
    omega (arith, pl, r.0)
