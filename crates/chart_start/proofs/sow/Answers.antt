-- sow meets its contract: rule by rule.
use mathlib.Core.Path.{refl, ◌∙◌}
use native.Mathlib.Omega.{arith}
use Rattle.chart.proofs.MadeLaws.{span_at}
use Rattle.chart_start.proofs.SowLaws.{sown-start, sown-turn}
use Rattle.chart_start.proofs.BegunLaws.{sown-begun}
use Rattle.chart_start.proofs.sow.Goals as goal

pub diagonal-requires : goal.diagonal-requires
diagonal-requires c = record { span = c.requires.span; h_bound = omega (arith, c.args.rows.now.wired.ready.four) }

pub loop-r-init : goal.loop-r-init
loop-r-init c = (refl, λ G P S X s. s)

pub sow_rule-requires : goal.sow_rule-requires
sow_rule-requires c = record {
  span = span_at c.requires.span (c.loop-r.invariant.0 ∙ c.diagonal.auto.work) c.requires.span.rises c.requires.span.inside;
  limits_bound = c.requires.count_le_max_rules.1 c.loop-r.r (omega arith);
}

pub loop-r-preserved : goal.loop-r-preserved
loop-r-preserved c = let g = c.args.g.now in
    let l = c.loop-r in (
      c.sow_rule.auto.work ∙ l.invariant.0,
      λ G P S X s. sown-turn S c.args.rows.now.sentence.now l.work c.sow_rule.new.work g.lefts g.lengths g.count l.r _ _ X (omega arith) refl refl c.sow_rule.ensures.diagonal c.sow_rule.ensures.work_unchanged
          (l.invariant.1 G P S X s),
    )

pub returns : goal.returns
returns c = let r = c.args.rows.now in
    let l = c.loop-r in
    λ G P S X z. sown-begun S r.sentence.now r.wired.ready.homes r.wired.ready.four l.work l.r (omega (arith, X.all))
    (l.invariant.1 G P S X (sown-start S r.sentence.now c.args.work.now c.diagonal.new.work z c.diagonal.ensures))
