-- write_live meets its contract: the entries of the rules before i are written, whose codes end before place u.
use borrow.Author.Rules.{rules}
use native.Mathlib.Omega.{arith}
use Prim.Native.Nat.{◌+◌, ◌≤◌}
use mathlib.Core.Path.{refl, ap, ◌∙◌}
use mathlib.Core.Bool.{◌&&◌}
use lib.ListN.{length, length-set}
use Rattle.live.specs.Marks.{left_at, marked, all_marked, bit}
use Rattle.live.proofs.PassLaws.{before-start, part_is, rule_fits, written-more}
use Rattle.live.proofs.write_live.Goals as goal
use Rattle.live.proofs.write_live.Invariants.{live_at}

pub loop-i-init : goal.loop-i-init
loop-i-init c = (before-start c.args.rules.now.lengths.now, refl, λ j h. absurd (omega arith))

pub overflow_add-e : goal.overflow_add-e
overflow_add-e c = let l = c.loop-i in let h = (rule_fits c.args.rules.now.columns l.i l.u c.from.result (omega arith) l.invariant.0 c.from.ensures).0 in search (rules, h)

pub offset_bounds-rules-u : goal.offset_bounds-rules-u
offset_bounds-rules-u c =
    let l = c.loop-i in
    let k : l.u ≤ length c.args.rules.now.codes.now = omega (arith, (rule_fits c.args.rules.now.columns l.i l.u c.from.result (omega arith) l.invariant.0 c.from.ensures).0) in
    search (rules, k)

pub slice_bounds-is_live-end : goal.slice_bounds-is_live-end
slice_bounds-is_live-end c = let l = c.loop-i in (rule_fits c.args.rules.now.columns l.i l.u c.from.result (omega arith) l.invariant.0 c.from.ensures).0

pub loop-i-preserved : goal.loop-i-preserved
loop-i-preserved c =
    let a = c.args in
    let l = c.loop-i in
    let k = l.invariant.1 in (
      (rule_fits c.args.rules.now.columns l.i l.u c.from.result (omega arith) l.invariant.0 c.from.ensures).1,
      simp length-set k,
      written-more (live_at a.rules.now.lefts.now a.rules.now.lengths.now a.rules.now.codes.now a.productive.now a.reached.now) l.live l.i _ (omega (arith, c.requires.count_in_bounds, k)) l.invariant.2
          (c.is_live.ensures ∙ ap (λ α. bit (marked a.reached.now (left_at a.rules.now.lefts.now l.i) && all_marked a.productive.now α))
          (part_is a.rules.now.lengths.now a.rules.now.codes.now l.i l.u (l.u + c.from.result) l.invariant.0 (omega (arith, l.invariant.0, c.from.ensures)))),
    )
