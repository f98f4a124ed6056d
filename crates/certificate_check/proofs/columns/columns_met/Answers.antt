-- columns_met meets its contract: one target more in each turn.
use native.Mathlib.Omega.{arith}
use mathlib.Core.Path.{◌≡◌, subst}
use Rattle.certificate_check.specs.Columns.{ColumnsMet}
use Rattle.certificate_check.proofs.ColumnLaws.{columns-none, columns-more}
use Rattle.certificate_check.proofs.columns.columns_met.Goals as goal

pub loop-h-init : goal.loop-h-init
loop-h-init c = (c.requires.1, columns-none _ _ _ _ _)

pub returns-then-v-begin : goal.returns-then-v-begin
returns-then-v-begin c = c.loop-h.invariant

pub returns-then-v-begin-ge-COLUMNS : goal.returns-then-v-begin-ge-COLUMNS
returns-then-v-begin-ge-COLUMNS c = c.loop-h.invariant

pub returns-then-near-v-eq0 : goal.returns-then-near-v-eq0
returns-then-near-v-eq0 c = c.loop-h.invariant

pub loop-h-preserved : goal.loop-h-preserved
loop-h-preserved c = let l = c.loop-h in
    (omega arith, columns-more _ _ _ _ _ l.h c.from-v.result l.invariant.1 c.from-v.ensures c.if-v-begin.false c.if-v-begin-ge-COLUMNS.false (omega (arith, c.if-near-v-eq0.false)))

pub returns : goal.returns
returns c = let a = c.args in
    let e : c.loop-h.h ≡ a.span = omega arith in
    (omega arith, subst (ColumnsMet a.targets.now a.near a.begin a.from a.k) e c.loop-h.invariant.1)
