-- find meets its contract: block after block is passed, from the last.
use Prim.Native.Nat.{◌-◌, ◌*◌, ◌/◌}
use mathlib.Core.Path.{refl, ◌∙◌}
use native.Mathlib.Omega.{arith}
use lib.ListN.{length-set}
use Rattle.chart.specs.Rows.{block}
use Rattle.chart_fill.proofs.Laws.{clear_from, block-passed, block-cleared}
use Rattle.chart_fill.proofs.find.Goals as goal

pub loop-p-init : goal.loop-p-init
loop-p-init c = (omega arith, refl, λ d C. (d, C))

pub returns-then-low-p : goal.returns-then-low-p
returns-then-low-p c = let k = c.loop-p in record { upper_bound = omega (arith, c.below-p.ensures, k.invariant.0); finds = λ d C. let y = k.invariant.2 d C in (clear_from c.args.flags.now c.below-p.result k.p c.below-p.ensures.2 y.0, y.1) }

pub loop-p-preserved-else-low-p : goal.loop-p-preserved-else-low-p
loop-p-preserved-else-low-p c = let k = c.loop-p in
    let a = c.args in
    let b = (k.p - 1) / block in (
      omega (arith, k.invariant.0),
      length-set k.blocks b 0 ∙ k.invariant.1,
      λ d C. let y = k.invariant.2 d C in
          let z = clear_from {Q = a.states} a.flags.now (b * block) k.p (λ h x g. c.below-p.ensures.2 h (omega (arith, c.if-low-p.false)) g) y.0 in
          (z, block-cleared b y.1 z),
    )

pub loop-p-preserved : goal.loop-p-preserved
loop-p-preserved c = let k = c.loop-p in (
  omega (arith, k.invariant.0),
  k.invariant.1,
  λ d C. let y = k.invariant.2 d C in (block-passed ((k.p - 1) / block) y.1 k.p refl c.if-blocks-b-ne0.false y.0, y.1),
)

pub returns : goal.returns
returns c = let l = c.loop-p in record { upper_bound = l.invariant.0; finds = l.invariant.2 }
