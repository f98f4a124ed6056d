-- `report::report` meets its contract: the lines of the text are put into a local row, and copied if there is room. Assumes nothing.
use native.Mathlib.Omega.{arith}
use mathlib.Core.Path.{◌≡◌, sym}
use Prim.Native.Nat.{ℕ, ◌≤◌}
use lib.ListN.{length, take, length-replicate}
use lib.Seq.{length-take-le}
use Rattle.report.specs.Report.{report_size, report_of}
use Rattle.report.proofs.Sizes.{never_short}
use Rattle.report.proofs.Written.{front-written, report_short, report_all}
use Rattle.report.proofs.report.Goals as goal
use Rattle.report.proofs.report.Lts as lts
use Rattle.report.proofs.report.Reads as reads
use Rattle.report.proofs.report.Tie as tie

abbrev Place-After-put_report : Type 0
Place-After-put_report = lts.After-put_report tie.the-claims reads.Pre reads.Post

size : (k : Place-After-put_report) → k.put_report-end.result ≡ length (report_of k.args.text.now)
size k = (front-written _ _ _ _ k.put_report-end.ensures).0

front : (k : Place-After-put_report) → take k.put_report-end.result k.put_report-end.new.out ≡ report_of k.args.text.now
front k = (front-written _ _ _ _ k.put_report-end.ensures).1

inside : (k : Place-After-put_report) → k.put_report-end.result ≤ length k.put_report-end.new.out
inside k = omega (arith, size k, never_short k.args.text.now, k.put_report-end.auto.out, length-replicate {A = ℕ} report_size 0)

pub put_report-end-requires : goal.put_report-end-requires
put_report-end-requires c = omega (arith, length-replicate {A = ℕ} report_size 0)

pub returns-then-out-end : goal.returns-then-out-end
returns-then-out-end c = report_short c.args.text.now c.args.out.now c.put_report-end.result (size c.before.before.before) (omega (arith, c.if-out-end.true))

pub slice_bounds-lines-end : goal.slice_bounds-lines-end
slice_bounds-lines-end c = omega (arith, inside c.before.before.before.before, c.put_report-end.auto.out, length-replicate {A = ℕ} report_size 0)

pub slice_bounds-put_bytes-end : goal.slice_bounds-put_bytes-end
slice_bounds-put_bytes-end c = sym (length-take-le _ _ (inside c.before.before.before.before.before))

pub put_bytes-requires : goal.put_bytes-requires
put_bytes-requires c = omega (arith, length-take-le c.put_report-end.result c.put_report-end.new.out (inside c.before.before.before.before.before), c.if-out-end.false)

pub returns : goal.returns
returns c = report_all c.args.text.now c.args.out.now c.put_report-end.result _ _ _ (size c.before.before.before.before.before.before.before.before) (front c.before.before.before.before.before.before.before.before) c.if-out-end.false c.put_bytes.ensures
