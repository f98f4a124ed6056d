-- entry_of meets its contract: the ranges are tested before the index is formed.
use native.Mathlib.Omega.{arith}
use mathlib.Core.Path.{refl, ◌∙◌}
use Rattle.witness_records.proofs.Entries.{entry-layer, entry-left, entry-right, entry-made}
use Rattle.witness_records.proofs.entry_of.Goals as goal

pub returns-then-layer-ge2 : goal.returns-then-layer-ge2
returns-then-layer-ge2 c = let a = c.args in entry-layer a.q a.e.layer a.e.left a.e.right (omega (arith, c.if-layer-ge2.true))

pub returns-then-q-left : goal.returns-then-q-left
returns-then-q-left c = let a = c.args in entry-left a.q a.e.layer a.e.left a.e.right (omega (arith, c.if-layer-ge2.false)) (omega (arith, c.if-q-left.true))

pub returns-then-q-right : goal.returns-then-q-right
returns-then-q-right c = let a = c.args in entry-right a.q a.e.layer a.e.left a.e.right (omega (arith, c.if-layer-ge2.false)) (omega (arith, c.if-q-left.false)) (omega (arith, c.if-q-right.true))

pub returns : goal.returns
returns c = let a = c.args in
    c.index_of.ensures
    ∙ entry-made a.q a.e.layer a.e.left a.e.right a.e.layer a.e.left a.e.right refl refl refl
    (omega (arith, c.if-layer-ge2.false)) (omega (arith, c.if-q-left.false)) (omega (arith, c.if-q-right.false))
