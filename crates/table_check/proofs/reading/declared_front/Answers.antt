-- declared_front meets its contract: the codes before i are declared, so the count is i and the count of the rest.
use native.Mathlib.Omega.{arith}
use mathlib.Core.Path.{sym, ◌∙◌}
use Rattle.grammar.specs.Limits.{limits}
use Rattle.grammar.proofs.Scans.{front-more, front_stops, front_ends}
use Rattle.table_check.proofs.reading.declared_front.Goals as goal

pub returns-then-not-declared : goal.returns-then-not-declared
returns-then-not-declared c = let l = c.loop-i in
    let a = c.args in
    let z = front_stops limits a.t a.n l.i a.right.now (omega arith) (sym c.declared.ensures ∙ c.if-not-declared.true) in
    omega (arith, z, l.invariant)

pub loop-i-preserved : goal.loop-i-preserved
loop-i-preserved c = let l = c.loop-i in
    let a = c.args in
    let z = front-more limits a.t a.n l.i a.right.now (omega arith) (sym c.declared.ensures ∙ c.if-not-declared.false) in
    omega (arith, z, l.invariant)

pub returns : goal.returns
returns c = let l = c.loop-i in
    let a = c.args in
    let z = front_ends limits a.t a.n l.i a.right.now (omega arith) in
    omega (arith, z, l.invariant)
