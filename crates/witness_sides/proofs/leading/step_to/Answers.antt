-- step_to meets its contract: the records passed over do not lead to j, and there are no more than the search looks at.
use native.Mathlib.Omega.{arith}
use Prim.Native.Nat.{◌*◌, ◌/◌, ◌%◌}
use mathlib.Core.Path.{sym, ◌∙◌}
use Rattle.steps.specs.Plan.{rows_of}
use Rattle.witness_sides.specs.Clauses.{records_at}
use Rattle.witness_sides.proofs.FewRecords.{few-planned}
use Rattle.witness_sides.proofs.SearchLaws.{leads_there, passed_over, ends-none, past-none}
use Rattle.witness_sides.proofs.leading.step_to.Goals as goal

pub returns-in_default : goal.returns-in_default
returns-in_default c = let a = c.args in
    let all = records_at (rows_of a.ahead.now a.number.now a.member.now a.first.now a.after.now a.targets.now a.t a.m) a.q a.i in
    ends-none a.q a.j all c.loop-k.k _ c.in_default.not-Record c.nth_rows-answer.ensures c.loop-k.invariant

pub returns-then-next_index-j : goal.returns-then-next_index-j
returns-then-next_index-j c = let a = c.args in
    let all = records_at (rows_of a.ahead.now a.number.now a.member.now a.first.now a.after.now a.targets.now a.t a.m) a.q a.i in
    leads_there a.q a.j all c.loop-k.k _ c.in-Record.ensures (sym c.next_index.ensures ∙ c.if-next_index-j.true) c.loop-k.invariant

pub loop-k-preserved : goal.loop-k-preserved
loop-k-preserved c = let a = c.args in
    let all = records_at (rows_of a.ahead.now a.number.now a.member.now a.first.now a.after.now a.targets.now a.t a.m) a.q a.i in
    passed_over a.q a.j all c.loop-k.k _ c.in-Record.ensures (λ z. c.if-next_index-j.false (c.next_index.ensures ∙ z)) c.loop-k.invariant

pub returns : goal.returns
returns c = let a = c.args in
    let rows = rows_of a.ahead.now a.number.now a.member.now a.first.now a.after.now a.targets.now a.t a.m in
    let few = few-planned rows (a.i / (a.q * a.q)) (a.i / a.q % a.q) (a.i % a.q) c.requires.short in
    past-none a.q a.j (records_at rows a.q a.i) c.loop-k.k (omega (arith, few, c.loop-k-test.false)) c.loop-k.invariant
