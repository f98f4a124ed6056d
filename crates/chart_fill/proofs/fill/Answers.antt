-- fill meets its contract: column after column.
use Prim.Native.Nat.{suc, ◌+◌}
use mathlib.Core.Path.{◌≡◌, refl, subst, ◌∙◌}
use native.Mathlib.Omega.{arith}
use Rattle.chart.specs.Filling.{Filled}
use Rattle.chart.proofs.MadeLaws.{span_at}
use Rattle.chart_fill.proofs.Laws.{fill_start, fill_more, fill_end}
use Rattle.chart_fill.proofs.fill.Goals as goal

pub loop-j-init : goal.loop-j-init
loop-j-init c = (refl, λ G P S F. fill_start S c.ends-marks.result (λ p h z. c.ends-marks.ensures p (omega (arith, c.args.rows.now.wired.ready.few)) z) F)

pub column-requires : goal.column-requires
column-requires c = span_at c.requires c.loop-j.invariant.0 (omega arith) (omega arith)

pub loop-j-preserved : goal.loop-j-preserved
loop-j-preserved c = let r = c.args.rows.now in
    let l = c.loop-j in (
      c.column.auto.work ∙ l.invariant.0,
      λ G P S F. let y = c.column.ensures G P S (l.invariant.1 G P S F) in
          subst (λ z. Filled G P r.states r.home.now r.sentence.now c.column.new.work c.ends-marks.result (suc z) z) (let z : suc l.j ≡ l.j + 1 = omega arith in z)
          (fill_more S c.ends-marks.result (λ p h z. c.ends-marks.ensures p (omega (arith, r.wired.ready.few)) z) y.1),
    )

pub returns : goal.returns
returns c = λ G P S F. fill_end S (omega arith) (c.loop-j.invariant.1 G P S F)
