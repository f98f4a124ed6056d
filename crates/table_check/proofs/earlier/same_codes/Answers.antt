-- same_codes meets its contract: the codes before i are equal, so the rest decides.
use native.Mathlib.Omega.{arith}
use borrow.Author.Tests.{eq-eqb, ne_eqb}
use mathlib.Core.Path.{◌∙◌}
use Rattle.table_check.proofs.EarlierLaws.{same_more, same_differs, same_ends, same-lengths}
use Rattle.table_check.proofs.earlier.same_codes.Goals as goal

pub returns-then-n-b : goal.returns-then-n-b
returns-then-n-b c = same-lengths _ _ c.if-n-b.true

pub returns-then-n-eq0 : goal.returns-then-n-eq0
returns-then-n-eq0 c = same_ends c.args.a.now c.args.b.now 0 (omega arith) (omega arith)

pub returns-then-a-b : goal.returns-then-a-b
returns-then-a-b c = same_differs c.args.a.now c.args.b.now 0 (omega arith) (omega arith) (ne_eqb _ _ c.if-a-b.true)

pub returns-then-n-eq1 : goal.returns-then-n-eq1
returns-then-n-eq1 c =
    same_ends c.args.a.now c.args.b.now 1 (omega arith) (omega arith)
    ∙ same_more c.args.a.now c.args.b.now 0 (omega arith) (omega arith) (eq-eqb _ _ c.if-a-b.false)

pub returns-then-a-b-2 : goal.returns-then-a-b-2
returns-then-a-b-2 c =
    same_differs c.args.a.now c.args.b.now 1 (omega arith) (omega arith) (ne_eqb _ _ c.if-a-b-2.true)
    ∙ same_more c.args.a.now c.args.b.now 0 (omega arith) (omega arith) (eq-eqb _ _ c.if-a-b.false)

pub loop-g-init : goal.loop-g-init
loop-g-init c =
    same_more c.args.a.now c.args.b.now 1 (omega arith) (omega arith) (eq-eqb _ _ c.if-a-b-2.false)
    ∙ same_more c.args.a.now c.args.b.now 0 (omega arith) (omega arith) (eq-eqb _ _ c.if-a-b.false)

pub returns-then-a-i : goal.returns-then-a-i
returns-then-a-i c = let l = c.loop-i in
    same_differs c.args.a.now c.args.b.now l.i (omega arith) (omega arith) (ne_eqb _ _ c.if-a-i.true) ∙ l.invariant

pub loop-i-preserved : goal.loop-i-preserved
loop-i-preserved c = let l = c.loop-i in
    same_more c.args.a.now c.args.b.now l.i (omega arith) (omega arith) (eq-eqb _ _ c.if-a-i.false) ∙ l.invariant

pub returns : goal.returns
returns c = let l = c.loop-i in
    same_ends c.args.a.now c.args.b.now l.i (omega arith) (omega arith) ∙ l.invariant
