-- column meets its contract: span after span.
use Prim.Native.Nat.{suc, ◌+◌, ◌-◌}
use mathlib.Core.Path.{◌≡◌, refl, subst, ◌∙◌}
use native.Mathlib.Omega.{arith}
use Rattle.chart.specs.Filling.{Filled}
use Rattle.chart.proofs.MadeLaws.{span_at}
use Rattle.chart_fill.proofs.column.Goals as goal

pub loop-i-init : goal.loop-i-init
loop-i-init c = let a = c.args in
    let r = a.rows.now in
    (refl, λ G P S F. subst (λ z. Filled G P r.states r.home.now r.sentence.now a.work.now a.marks.now z a.j) (let z : suc a.j ≡ a.j + 1 = omega arith in z) F)

pub span-requires : goal.span-requires
span-requires c = span_at c.requires c.loop-i.invariant.0 (omega arith) c.requires.inside

pub loop-i-preserved : goal.loop-i-preserved
loop-i-preserved c = let a = c.args in
    let r = a.rows.now in
    let l = c.loop-i in (
      c.span.auto.work ∙ l.invariant.0,
      λ G P S F. c.span.ensures G P S
          (subst (λ z. Filled G P r.states r.home.now r.sentence.now l.work l.active z a.j) (let z : l.i ≡ suc (l.i - 1) = omega arith in z) (l.invariant.1 G P S F)),
    )

pub returns : goal.returns
returns c = let a = c.args in
    let r = a.rows.now in
    let l = c.loop-i in
    λ G P S F. (
      l.active,
      subst (λ z. Filled G P r.states r.home.now r.sentence.now l.work l.active z a.j) (let z : l.i ≡ 0 = omega arith in z) (l.invariant.1 G P S F),
    )
