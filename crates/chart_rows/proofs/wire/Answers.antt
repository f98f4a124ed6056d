-- wire meets its contract: before turn p the states below p have their leads, links and homes.
use native.Mathlib.Omega.{arith}
use mathlib.Core.Path.{◌≡◌, refl, subst, ◌∙◌}
use Prim.Native.Nat.{◌<◌}
use lib.ListN.{length-set}
use Rattle.chart_rows.specs.Wiring.{Leads, Links, Homes}
use Rattle.chart_rows.proofs.Turns.{leads_more, links-start, links-turn, homes_start, homes_turn}
use Rattle.chart_rows.proofs.wire.Goals as goal

pub loop-p-init : goal.loop-p-init
loop-p-init c = let a = c.args in
    record {
      leads = λ s h. absurd (omega arith);
      links = links-start a.ahead.now a.next.now a.head.now c.requires.zeros.0 c.requires.zeros.1;
      homes = homes_start a.member.now a.home.now a.n c.requires.zeros.2;
      lead_long = refl;
      next-long = refl;
      head-long = refl;
      home_long = refl;
    }

pub link-requires : goal.link-requires
link-requires c = let l = c.loop-p in
    let h : l.p < c.args.states = c.loop-p-test.true in (
      omega (arith, c.requires.roomy.nexts, l.invariant.next-long),
      omega (arith, c.requires.wirable.states),
      omega (arith, c.requires.wirable.codes l.p h, l.invariant.head-long, c.requires.roomy.heads),
      l.invariant.head-long ∙ c.requires.roomy.heads,
    )

pub loop-p-preserved : goal.loop-p-preserved
loop-p-preserved c = let l = c.loop-p in
    let a = c.args in
    let h : l.p < a.states = c.loop-p-test.true in
    record {
      leads = leads_more a.target.now l.lead a.n l.p c.lead_of.result (omega (arith, h, l.invariant.lead_long, c.requires.roomy.leads)) c.lead_of.ensures l.invariant.leads;
      links = links-turn a.ahead.now l.next l.head c.link.new.next c.link.new.head l.p _ refl c.requires.wirable.front
          (omega (arith, h, l.invariant.next-long, c.requires.roomy.nexts)) (omega (arith, c.requires.wirable.codes l.p h, l.invariant.head-long, c.requires.roomy.heads))
          c.link.ensures.next_unchanged c.link.ensures.next_after l.invariant.links;
      homes = homes_turn a.member.now l.home c.house.new.home a.n l.p _ refl c.requires.wirable.no_end
          (omega (arith, l.invariant.home_long, c.requires.roomy.homes, c.requires.wirable.nonterminals)) c.house.ensures.home_after c.house.ensures.home_unchanged l.invariant.homes;
      lead_long = length-set l.lead l.p c.lead_of.result ∙ l.invariant.lead_long;
      next-long = c.link.auto.next ∙ l.invariant.next-long;
      head-long = c.link.auto.head ∙ l.invariant.head-long;
      home_long = c.house.auto.home ∙ l.invariant.home_long;
    }

pub returns : goal.returns
returns c = let l = c.loop-p in
    let a = c.args in
    let z : l.p ≡ a.states = omega arith in record { leads = subst (λ q. Leads a.target.now a.n q l.lead) z l.invariant.leads; links = subst (λ q. Links a.ahead.now q l.next l.head) z l.invariant.links; homes = subst (λ q. Homes a.member.now a.n q l.home) z l.invariant.homes }
