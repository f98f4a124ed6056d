-- derive_all meets its contract: the rules from i on are done, whose codes begin at place u.
use borrow.Author.Rules.{rules}
use native.Mathlib.Omega.{arith}
use Prim.Native.Nat.{◌+◌, ◌-◌, ◌≤◌}
use mathlib.Core.Path.{◌≡◌, refl, ap, sym, subst, ◌∙◌}
use lib.ListN.{length}
use Rattle.live.specs.Marks.{before}
use Rattle.live.proofs.MarkLaws.{unmarked-few}
use Rattle.live.proofs.PassLaws.{before-step, before-most, part_is, DerivedFrom, derived-more}
use Rattle.live.proofs.passes.derive_all.Goals as goal

pub overflow_sub-u : goal.overflow_sub-u
overflow_sub-u c = let l = c.loop-i in omega (arith, l.invariant.0, before-step c.args.rules.now.lengths.now l.i (omega arith), c.from-u.ensures)

pub offset_bounds-rules-u : goal.offset_bounds-rules-u
offset_bounds-rules-u c =
    let l = c.loop-i in
    let k : l.u - c.from-u.result ≤ length c.args.rules.now.codes.now = omega (arith, l.invariant.0, before-most c.args.rules.now.lengths.now l.i c.args.rules.now.count (omega arith), c.args.rules.now.columns.code) in
    search (rules, k)

pub slice_bounds-derive-end : goal.slice_bounds-derive-end
slice_bounds-derive-end c = let l = c.loop-i in omega (arith, l.invariant.0, before-most c.args.rules.now.lengths.now l.i c.args.rules.now.count (omega arith), c.args.rules.now.columns.code)

pub overflow_add-n : goal.overflow_add-n
overflow_add-n c =
    let l = c.loop-i in
    let h : l.n + c.derive-n.result ≤ length c.args.marks.now = omega (arith, l.invariant.1.fewer, c.derive-n.ensures.fewer, unmarked-few c.args.marks.now) in
    search (rules, h)

pub loop-i-preserved : goal.loop-i-preserved
loop-i-preserved c =
    let a = c.args in
    let l = c.loop-i in
    let e : l.i ≡ l.i - 1 + 1 = omega arith in
    let h : l.u ≡ before a.rules.now.lengths.now (l.i - 1) + c.from-u.result =
    l.invariant.0 ∙ before-step a.rules.now.lengths.now l.i (omega arith) ∙ ap (λ k. before a.rules.now.lengths.now (l.i - 1) + k) (sym c.from-u.ensures) in (
      omega (arith, h),
      derived-more a.rules.now.lefts.now a.rules.now.lengths.now a.rules.now.codes.now a.rules.now.count (l.i - 1) _ _ a.marks.now l.marks _ l.n _ (omega arith) refl
          (part_is a.rules.now.lengths.now a.rules.now.codes.now (l.i - 1) (l.u - c.from-u.result) l.u (omega (arith, h)) (omega (arith, h, c.from-u.ensures)))
          (subst (λ i. DerivedFrom a.rules.now.lefts.now a.rules.now.lengths.now a.rules.now.codes.now a.rules.now.count i a.marks.now l.marks l.n) e l.invariant.1)
          c.derive-n.ensures,
    )
