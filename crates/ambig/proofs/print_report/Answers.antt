-- The output lent is long enough, so its front is the report. Assumes nothing.
use Rattle.std.proofs.Common.{ℕ, length, arith, ap, subst, length-take}
use Rattle.ambig.specs.Output.{AppendsFront}
use Rattle.ambig.proofs.Report.{is_written, front_is_report}
use Rattle.ambig.proofs.print_report.Goals as goal

pub unreachable-requires : goal.unreachable-requires
unreachable-requires g c =
    let k = c.report-reported in
    c.in_default.not-Written _ (is_written c.args.text.now _ k.result k.new.out k.ensures (omega arith))

pub slice_bounds-out-end : goal.slice_bounds-out-end
slice_bounds-out-end g c =
    let k = c.report-reported in
    let (n, e) = front_is_report c.args.text.now _ k.result k.new.out k.ensures (omega arith) c.in-Written.n c.in-Written.is in
    omega (arith, n, ap length e, length-take {A = ℕ})

pub slice_bounds-write_bytes-end : goal.slice_bounds-write_bytes-end
slice_bounds-write_bytes-end g c =
    let k = c.report-reported in
    let (n, e) = front_is_report c.args.text.now _ k.result k.new.out k.ensures (omega arith) c.in-Written.n c.in-Written.is in
    omega (arith, n, ap length e, length-take {A = ℕ})

pub returns-clause-all : goal.returns-clause-all
returns-clause-all g c =
    let k = c.report-reported in
    let (n, e) = front_is_report c.args.text.now _ k.result k.new.out k.ensures (omega arith) c.in-Written.n c.in-Written.is in
    rw e at c.write_bytes.ensures.all

pub returns-clause-front : goal.returns-clause-front
returns-clause-front g c =
    let k = c.report-reported in
    let (n, e) = front_is_report c.args.text.now _ k.result k.new.out k.ensures (omega arith) c.in-Written.n c.in-Written.is in
    subst (AppendsFront _ _) e c.write_bytes.ensures.front
