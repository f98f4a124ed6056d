-- `report::put::put_refused` meets its contract: the number, then the position. Assumes nothing.
use Prim.Native.Nat.{ℕ}
use native.Mathlib.Omega.{arith}
use mathlib.Core.Path.{refl, subst}
use Rattle.grammar.specs.Refusal.{cause_number}
use Rattle.text_write.specs.Clauses.{Wrote}
use Rattle.text_write.proofs.Filling.{Filling, filling_start, filling_ran, filling_last}
use Rattle.text.specs.Numbers.{decimal}
use Rattle.report.specs.Report.{line, refused_is, at_is}
use Rattle.report.specs.Clauses.{refused_lines}
use Rattle.report.proofs.put.put_refused.Goals as goal

pub returns : goal.returns
returns c = let a = c.args in
    let start : Filling 0 a.out.now (refused_lines a.cause a.at) 0 a.out.now (refused_lines a.cause a.at) = filling_start 0 _ _ (omega (arith, c.requires)) in
    let told : Wrote 0 (line refused_is (decimal (cause_number a.cause))) a.out.now c.put_count-a.result c.put_count-a.new.out
    = subst (λ (n : ℕ). Wrote 0 (line refused_is (decimal n)) a.out.now c.put_count-a.result c.put_count-a.new.out) c.from.ensures c.put_count-a.ensures in
    filling_last c.put_count.ensures (filling_ran (line refused_is (decimal (cause_number a.cause))) (line at_is (decimal a.at)) refl told start)
