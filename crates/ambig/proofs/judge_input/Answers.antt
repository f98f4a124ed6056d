-- What is written is a front of the report of the whole input. Assumes nothing.
use Rattle.std.proofs.Common.{Result, Ok, Err, OnOk, arith}
use Rattle.std.specs.Io.KnownBytes.{Appends}
use Rattle.ambig.specs.Output.{AppendsFront}
use Rattle.ambig.proofs.Report.{report_of_input}
use Rattle.ambig.proofs.judge_input.Goals as goal

-- what follows from a fact that comes with an Ok comes with it
on_ok : {T E P Q : Type 0} (r : Result T E) → (P → Q) → OnOk r P → OnOk r Q
on_ok (Ok x) f h = f h
on_ok (Err e) f h = tt

pub returns-clause-all : goal.returns-clause-all
returns-clause-all g c =
    on_ok c.print_report.result
    (report_of_input _ _ c.in_ok-n.n c.read_input.new.text (Appends _ _) (omega arith) c.in_ok-n.ensures.within c.in_ok-n.ensures.read)
    c.print_report.ensures.all

pub returns-clause-front : goal.returns-clause-front
returns-clause-front g c =
    report_of_input _ _ c.in_ok-n.n c.read_input.new.text (AppendsFront _ _) (omega arith) c.in_ok-n.ensures.within c.in_ok-n.ensures.read c.print_report.ensures.front
