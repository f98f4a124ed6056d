-- sow_rule meets its contract: only an empty rule is seen to.
use mathlib.Core.Path.{subst}
use native.Mathlib.Omega.{arith}
use Rattle.chart.specs.Filling.{width}
use Rattle.chart.proofs.MadeLaws.{home_in}
use Rattle.chart_start.specs.Sown.{Diagonal}
use Rattle.chart_start.proofs.sow_rule.Goals as goal

pub diagonal-requires : goal.diagonal-requires
diagonal-requires c = let r = c.args.rows.now in
    record { span = c.requires.span; h_bound = omega (arith, c.home_of-h.ensures, home_in r.home.now c.args.b r.states r.wired.ready.homes (omega (arith, r.wired.ready.four))) }

pub returns : goal.returns
returns c = let a = c.args in record {
  diagonal = λ q. subst (λ n. Diagonal (width a.rows.now) n (width a.rows.now) a.work.now c.diagonal.new.work) c.home_of-h.ensures c.diagonal.ensures;
  work_unchanged = λ q. absurd (q c.if-k-ne0.false);
}
