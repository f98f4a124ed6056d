-- `names::same_name` meets its contract: from the cursor on the two names are the same, and before it they are looked at. Assumes nothing.
use Rattle.std.proofs.Common.{rules, ◌≡◌, ◌+◌, ◌-◌, sym, ◌∙◌, arith, length}
use Rattle.names.proofs.Names.{same-lengths, same_step, same-differ, same_end}
use Rattle.names.proofs.same_name.Goals as goal

pub returns-then-n-b : goal.returns-then-n-b
returns-then-n-b c = sym (same-lengths c.args.a.now c.args.b.now (search rules))

pub loop-i-init : goal.loop-i-init
loop-i-init c = same_end c.args.a.now c.args.b.now (length c.args.a.now) (omega arith) (omega arith)

pub returns-then-fold : goal.returns-then-fold
returns-then-fold c = sym (same-differ c.args.a.now c.args.b.now (c.loop-i.i - 1) (omega arith) (omega arith)
    (λ q. c.if-fold.true (c.fold.ensures ∙ q ∙ sym c.fold-in-loop-i.ensures)))

pub loop-i-preserved : goal.loop-i-preserved
loop-i-preserved c = let z : c.loop-i.i - 1 + 1 ≡ c.loop-i.i = omega arith in
    same_step c.args.a.now c.args.b.now (c.loop-i.i - 1) (omega arith) (omega arith) (sym c.fold.ensures ∙ c.if-fold.false ∙ c.fold-in-loop-i.ensures)
    ∙ rw z c.loop-i.invariant
