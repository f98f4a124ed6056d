-- span meets its contract: the flags are dropped from the highest on, and none is left.
use Prim.Native.Nat.{suc, ◌-◌, ◌/◌}
use mathlib.Core.Path.{◌≡◌, refl, sym, subst, ◌∙◌}
use native.Mathlib.Omega.{arith}
use borrow.Author.Rules.{rules}
use Rattle.grammar.specs.Limits.{limits}
use Rattle.chart.specs.Rows.{block}
use Rattle.chart.specs.Filling.{Working}
use Rattle.chart.proofs.MadeLaws.{span_at}
use Rattle.chart_fill.proofs.Laws.{span_start, span_down, span_end, all_covered}
use Rattle.chart_fill.proofs.span.Goals as goal

pub loop-q-init : goal.loop-q-init
loop-q-init c = let a = c.args in (
  c.find-q.ensures.upper_bound,
  refl,
  λ G P S F. let y = c.find-q.ensures.finds (λ h x g. absurd (omega arith)) (all_covered a.rows.now.states (limits.max_states / block) a.active.now (omega (arith, c.args.rows.now.wired.ready.few))) in
      (span_down S c.find-q.result y.0 (span_start S c.requires.rises F), y.1),
  search rules,
  search rules,
  search rules,
)

pub slice_bounds-look-end : goal.slice_bounds-look-end
slice_bounds-look-end c = sym c.loop-q.invariant.3

pub slice_bounds-look-end-in-loop-q : goal.slice_bounds-look-end-in-loop-q
slice_bounds-look-end-in-loop-q c = sym c.loop-q.invariant.4

pub slice_bounds-look-end-in-loop-q-2 : goal.slice_bounds-look-end-in-loop-q-2
slice_bounds-look-end-in-loop-q-2 c = sym c.loop-q.invariant.5

pub look-r-requires : goal.look-r-requires
look-r-requires c = let few = c.args.rows.now.wired.ready.few in record { span = span_at c.requires c.loop-q.invariant.1 c.requires.rises c.requires.inside; le_q = (omega arith, omega (arith, c.loop-q.invariant.0)); states_in_bounds = (omega (arith, few, c.loop-q.invariant.3), omega (arith, few, c.loop-q.invariant.4), omega (arith, few, c.loop-q.invariant.5)) }

pub loop-q-smaller : goal.loop-q-smaller
loop-q-smaller c = omega (arith, c.look-r.ensures.upper_bound.1, c.find-q-in-loop-q.ensures.upper_bound)

pub loop-q-preserved : goal.loop-q-preserved
loop-q-preserved c = let k = c.loop-q in
    let a = c.args in (
      omega (arith, c.look-r.ensures.upper_bound.0, c.find-q-in-loop-q.ensures.upper_bound),
      c.look-r.auto.work ∙ k.invariant.1,
      λ G P S F. let x = k.invariant.2 G P S F in
          let W = c.look-r.ensures.looks G P S
          (subst (λ z. Working G P a.rows.now.states a.rows.now.home.now a.rows.now.sentence.now k.work k.active k.flags z a.i a.j) (let z : k.q ≡ suc (k.q - 1) = omega arith in z) x.0) in
          let y = c.find-q-in-loop-q.ensures.finds W.looking.high (c.look-r.ensures.covered x.1) in
          (span_down S c.find-q-in-loop-q.result y.0 W, y.1),
      c.look-r.auto.active ∙ k.invariant.3,
      c.look-r.auto.flags ∙ k.invariant.4,
      c.find-q-in-loop-q.auto.blocks ∙ c.look-r.auto.blocks ∙ k.invariant.5,
    )

pub returns : goal.returns
returns c = let l = c.loop-q in λ G P S F. span_end S (omega arith) (l.invariant.2 G P S F).0
