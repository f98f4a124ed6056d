-- lead_all meets its contract: the rules before i are done, whose codes end before place u.
use borrow.Author.Rules.{rules}
use native.Mathlib.Omega.{arith}
use Prim.Native.Nat.{◌+◌, ◌≤◌}
use mathlib.Core.Path.{refl}
use lib.ListN.{length}
use Rattle.live.proofs.MarkLaws.{unmarked-few}
use Rattle.live.proofs.PassLaws.{before-start, part_is, rule_fits, led-start, led-more}
use Rattle.live.proofs.passes.lead_all.Goals as goal

pub loop-i-init : goal.loop-i-init
loop-i-init c = (before-start c.args.rules.now.lengths.now, led-start c.args.rules.now.lefts.now c.args.rules.now.lengths.now c.args.rules.now.codes.now c.args.rules.now.count c.args.productive.now c.args.marks.now)

pub overflow_add-e : goal.overflow_add-e
overflow_add-e c = let l = c.loop-i in let h = (rule_fits c.args.rules.now.columns l.i l.u c.from.result (omega arith) l.invariant.0 c.from.ensures).0 in search (rules, h)

pub offset_bounds-rules-u : goal.offset_bounds-rules-u
offset_bounds-rules-u c =
    let l = c.loop-i in
    let k : l.u ≤ length c.args.rules.now.codes.now = omega (arith, (rule_fits c.args.rules.now.columns l.i l.u c.from.result (omega arith) l.invariant.0 c.from.ensures).0) in
    search (rules, k)

pub slice_bounds-lead-end : goal.slice_bounds-lead-end
slice_bounds-lead-end c = let l = c.loop-i in (rule_fits c.args.rules.now.columns l.i l.u c.from.result (omega arith) l.invariant.0 c.from.ensures).0

pub overflow_add-n : goal.overflow_add-n
overflow_add-n c =
    let l = c.loop-i in
    let h : l.n + c.lead-n.result ≤ length c.args.marks.now = omega (arith, l.invariant.1.fewer, c.lead-n.ensures.fewer, unmarked-few c.args.marks.now) in
    search (rules, h)

pub loop-i-preserved : goal.loop-i-preserved
loop-i-preserved c =
    let a = c.args in
    let l = c.loop-i in (
      (rule_fits c.args.rules.now.columns l.i l.u c.from.result (omega arith) l.invariant.0 c.from.ensures).1,
      led-more a.rules.now.lefts.now a.rules.now.lengths.now a.rules.now.codes.now a.rules.now.count a.productive.now l.i _ _ a.marks.now l.marks _ l.n _ (omega arith) refl
          (part_is a.rules.now.lengths.now a.rules.now.codes.now l.i l.u (l.u + c.from.result) l.invariant.0 (omega (arith, l.invariant.0, c.from.ensures)))
          l.invariant.1 c.lead-n.ensures,
    )
