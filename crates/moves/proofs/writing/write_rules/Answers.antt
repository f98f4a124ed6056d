-- write_rules meets its contract: i rules are written, whose codes end before place u.
use native.Mathlib.Omega.{arith}
use Prim.Native.Nat.{ℕ, ◌+◌, ◌-◌, ◌≤◌, ◌<◌}
use mathlib.Core.Path.{◌≡◌, ap, ◌∙◌}
use mathlib.Core.List.{List}
use lib.Dec.{ltb}
use lib.ListN.{length, get_or, take, drop, replicate}
use Rattle.grammar.specs.Limits.{limits}
use Rattle.moves.specs.Tables.{member_line, target_line, number_line, blanked}
use Rattle.moves.specs.Clauses.{Columns, write, lengths_from, ahead_line, column_states, rule_of, stored, live_line}
use Rattle.moves.proofs.Lines.{number_full, member_full, target-full}
use Rattle.moves.proofs.Writes.{ahead-full, lengths-more, part_length, rows_more, rows_end, row-blanked, blanked-full}
use Rattle.moves.proofs.writing.write_rules.Goals as goal
use Rattle.moves.proofs.writing.write_rules.Invariants.{aheads, members, targets}

-- rule i lies within the codes and the rows
fits : {lefts lengths codes : List ℕ} {count : ℕ} → Columns lefts lengths codes count → (i u at k : ℕ) → i < count
    → u + lengths_from lengths (count - i) i ≡ lengths_from lengths count 0 → at ≡ 4 + u + i → k ≡ get_or lengths i 0
    → (u + k ≤ length codes) × (at + k < column_states lengths count) × (u + k + lengths_from lengths (count - (i + 1)) (i + 1) ≡ lengths_from lengths count 0)
fits {lengths = lengths} {count = count} p i u at k h e f g =
    let r = lengths-more lengths count i h in
    (omega (arith, r, e, g, p.code), omega (arith, r, e, f, g), omega (arith, r, e, g))

pub slice_bounds-write_classes-end : goal.slice_bounds-write_classes-end
slice_bounds-write_classes-end c = let h = fits c.requires.columns c.loop-i.i c.loop-i.u c.loop-i.at c.from-k.result (omega arith) c.loop-i.invariant.0 c.loop-i.invariant.1 c.from-k.ensures in omega arith

pub write_classes-requires : goal.write_classes-requires
write_classes-requires c = let a = c.args in
    let l = c.loop-i in
    let h = fits c.requires.columns c.loop-i.i c.loop-i.u c.loop-i.at c.from-k.result (omega arith) c.loop-i.invariant.0 c.loop-i.invariant.1 c.from-k.ensures in
    let p = part_length a.codes.now l.u c.from-k.result h.0 in
    record { m_bound = omega arith; codes_in_bounds = omega (arith, p, h.1, l.invariant.4.same, c.requires.wide.member); codes_in_bounds_2 = omega (arith, p, h.1, l.invariant.5.same, c.requires.wide.target) }

pub slice_bounds-write_items-end : goal.slice_bounds-write_items-end
slice_bounds-write_items-end c = let h = fits c.requires.columns c.loop-i.i c.loop-i.u c.loop-i.at c.from-k.result (omega arith) c.loop-i.invariant.0 c.loop-i.invariant.1 c.from-k.ensures in omega arith

pub write_items-requires : goal.write_items-requires
write_items-requires c = let a = c.args in
    let l = c.loop-i in
    let h = fits c.requires.columns c.loop-i.i c.loop-i.u c.loop-i.at c.from-k.result (omega arith) c.loop-i.invariant.0 c.loop-i.invariant.1 c.from-k.ensures in
    let p = part_length a.codes.now l.u c.from-k.result h.0 in
    record { codes_in_bounds = omega (arith, p, h.1, l.invariant.2.same, c.requires.wide.ahead); codes_in_bounds_2 = omega (arith, p, h.1, l.invariant.3.same, c.requires.wide.number) }

pub loop-i-preserved : goal.loop-i-preserved
loop-i-preserved c = let a = c.args in
    let l = c.loop-i in
    let k = c.from-k.result in
    let e = c.from-k.ensures in
    let h = fits c.requires.columns c.loop-i.i c.loop-i.u c.loop-i.at c.from-k.result (omega arith) c.loop-i.invariant.0 c.loop-i.invariant.1 c.from-k.ensures in
    let u = h.0 in
    let v = c.write_classes.ensures in
    let w = c.write_items.ensures in
    let z : l.i ≡ l.i + 2 - 2 = omega arith in
    let r = rule_of (get_or a.lefts.now l.i 0) (take (l.u + k - l.u) (drop l.u a.codes.now)) in
    let n : l.i + 1 ≡ l.i + 2 - 1 = omega arith in (
      h.2,
      omega arith,
      rows_more (aheads a.live.now) (blanked-full ahead_line (live_line a.live.now) ahead-full) a.lefts.now a.lengths.now a.codes.now a.count a.ahead.now l.ahead _ l.at l.u l.i k (omega arith) e u (w.ahead_after ∙ ap (λ (j : ℕ). write l.ahead l.at (ahead_line 0 (blanked (ltb 0 (get_or a.live.now j 0)) r))) z) l.invariant.2,
      rows_more number_line number_full a.lefts.now a.lengths.now a.codes.now a.count a.number.now l.number _ l.at l.u l.i k (omega arith) e u (w.number_after ∙ ap (λ (i : ℕ). write l.number l.at (replicate (length (take (l.u + k - l.u) (drop l.u a.codes.now)) + 1) i)) n) l.invariant.3,
      rows_more (members a.live.now a.m) (blanked-full (member_line limits a.m) (live_line a.live.now) (member_full limits a.m)) a.lefts.now a.lengths.now a.codes.now a.count a.member.now l.member _ l.at l.u l.i k (omega arith) e u (v.member_after ∙ ap (λ (j : ℕ). write l.member l.at (member_line limits a.m 0 (blanked (ltb 0 (get_or a.live.now j 0)) r))) z) l.invariant.4,
      rows_more (targets a.live.now a.m) (blanked-full (target_line limits a.m) (live_line a.live.now) (target-full limits a.m)) a.lefts.now a.lengths.now a.codes.now a.count a.target.now l.target _ l.at l.u l.i k (omega arith) e u (v.target_after ∙ ap (λ (j : ℕ). write l.target l.at (target_line limits a.m 0 (blanked (ltb 0 (get_or a.live.now j 0)) r))) z) l.invariant.5,
    )

pub returns : goal.returns
returns c = let a = c.args in
    let l = c.loop-i in
    record {
      ahead = rows_end (aheads a.live.now) (blanked-full ahead_line (live_line a.live.now) ahead-full) a.lefts.now a.lengths.now a.codes.now a.count a.ahead.now l.ahead l.at l.u l.i (omega arith) l.invariant.2
          ∙ ap (write a.ahead.now 4) (row-blanked ahead_line (live_line a.live.now) 2 (stored a.lefts.now a.lengths.now a.codes.now a.count));
      number = rows_end number_line number_full a.lefts.now a.lengths.now a.codes.now a.count a.number.now l.number l.at l.u l.i (omega arith) l.invariant.3;
      member = rows_end (members a.live.now a.m) (blanked-full (member_line limits a.m) (live_line a.live.now) (member_full limits a.m)) a.lefts.now a.lengths.now a.codes.now a.count a.member.now l.member l.at l.u l.i (omega arith) l.invariant.4
          ∙ ap (write a.member.now 4) (row-blanked (member_line limits a.m) (live_line a.live.now) 2 (stored a.lefts.now a.lengths.now a.codes.now a.count));
      target = rows_end (targets a.live.now a.m) (blanked-full (target_line limits a.m) (live_line a.live.now) (target-full limits a.m)) a.lefts.now a.lengths.now a.codes.now a.count a.target.now l.target l.at l.u l.i (omega arith) l.invariant.5
          ∙ ap (write a.target.now 4) (row-blanked (target_line limits a.m) (live_line a.live.now) 2 (stored a.lefts.now a.lengths.now a.codes.now a.count));
    }
