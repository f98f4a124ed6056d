-- side_of meets its contract: the class, and two entries of the row of beginnings.
use mathlib.Core.Path.{◌≡◌, ap, ◌∙◌}
use Prim.Native.Nat.{ℕ, ◌+◌, ◌-◌}
use lib.ListN.{get_or}
use Rattle.plans.proofs.PlanLaws.{side_from}
use Rattle.plans.proofs.sides.side_of.Goals as goal

pub returns : goal.returns
returns c = let a = c.args in
    let x : c.from-from.result ≡ get_or a.first.now (get_or a.member.now a.p 0) 0 = c.from-from.ensures ∙ ap (λ (n : ℕ). get_or a.first.now n 0) c.from-c.ensures in
    let y : c.from-end.result ≡ get_or a.first.now (get_or a.member.now a.p 0 + 1) 0 = c.from-end.ensures ∙ ap (λ (n : ℕ). get_or a.first.now (n + 1) 0) c.from-c.ensures in
    ap (λ (n : ℕ). side_from (get_or a.member.now a.p 0) n (c.from-end.result - n)) x
    ∙ ap (λ (n : ℕ). side_from (get_or a.member.now a.p 0) (get_or a.first.now (get_or a.member.now a.p 0) 0) (n - get_or a.first.now (get_or a.member.now a.p 0) 0)) y
