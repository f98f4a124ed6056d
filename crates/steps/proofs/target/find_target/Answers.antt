-- find_target meets its contract: the entries before i that count are passed, so the rest of the row has the place that is left.
use native.Mathlib.Omega.{arith}
use mathlib.Core.Path.{◌≡◌, refl, ap, sym, ◌∙◌}
use Prim.Native.Nat.{ℕ, ◌+◌, ◌-◌}
use lib.ListN.{get_or, drop}
use Rattle.steps.specs.Plan.{weight, between, pick_of}
use Rattle.steps.proofs.Nth.{pick-here, pick-on, pick_end}
use Rattle.steps.proofs.target.find_target.Goals as goal
use Rattle.steps.proofs.target.find_target.Lts as lts
use Rattle.steps.proofs.target.find_target.Reads as reads
use Rattle.steps.proofs.target.find_target.Tie as tie

abbrev Place-After-counts : Type 0
Place-After-counts = lts.After-counts tie.the-claims reads.Pre reads.Post goal.the-invariant-loop-u goal.the-decreases-loop-u

pub loop-u-init : goal.loop-u-init
loop-u-init c = refl

-- what the entry counts
told : (c : Place-After-counts) → let a = c.args in let l = c.loop-u in
    c.counts-w.result ≡ weight a.from a.to (get_or a.row.now l.u-index 0)
told c =
    let a = c.args in
    c.counts-w.ensures ∙ ap (weight a.from a.to) c.from.ensures

pub returns-then-rest-w : goal.returns-then-rest-w
returns-then-rest-w c = let a = c.args in
    let l = c.loop-u in
    let z = told c.before.before in
    sym (pick-here a.from a.to a.row.now l.u-index l.rest c.loop-u-test.true (omega (arith, z, c.if-rest-w.true))) ∙ l.invariant

pub loop-u-preserved : goal.loop-u-preserved
loop-u-preserved c = let a = c.args in
    let l = c.loop-u in
    let z = told c.before.before in
    ap (λ (w : ℕ). pick_of (between a.from a.to (drop (l.u-index + 1) a.row.now)) (l.rest - w)) z
    ∙ pick-on a.from a.to a.row.now l.u-index l.rest c.loop-u-test.true (omega (arith, z, c.if-rest-w.false)) ∙ l.invariant

pub returns : goal.returns
returns c = let a = c.args in
    let l = c.loop-u in
    sym (pick_end a.from a.to a.row.now l.u-index l.rest c.loop-u-test.false) ∙ l.invariant
