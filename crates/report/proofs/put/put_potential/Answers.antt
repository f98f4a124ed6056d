-- `report::put::put_potential` meets its contract: Q, then the verdict. Assumes nothing.
use native.Mathlib.Omega.{arith}
use mathlib.Core.Path.{refl}
use Rattle.text_write.proofs.Filling.{Filling, filling_start, filling_room, filling_ran, filling_last, filling_all}
use Rattle.text.specs.Numbers.{decimal}
use Rattle.report.specs.Report.{line, states_is, verdict_is, potential}
use Rattle.report.specs.Clauses.{potential_lines}
use Rattle.report.proofs.put.put_potential.Goals as goal
use Rattle.report.proofs.put.put_potential.Lts as lts
use Rattle.report.proofs.put.put_potential.Reads as reads
use Rattle.report.proofs.put.put_potential.Tie as tie

abbrev Start : Type 0
Start = lts.Start tie.the-claims reads.Pre reads.Post

abbrev Place-After-put_count : Type 0
Place-After-put_count = lts.After-put_count tie.the-claims reads.Pre reads.Post

begins : (s : Start) → Filling 0 s.args.out.now (potential_lines s.args.states) 0 s.args.out.now (potential_lines s.args.states)
begins s = filling_start 0 _ _ (omega (arith, s.requires))

after-states : (c : Place-After-put_count) →
    Filling 0 c.args.out.now (potential_lines c.args.states) c.put_count-a.result c.put_count-a.new.out (line verdict_is potential)
after-states c = filling_ran (line states_is (decimal c.args.states)) _ refl c.put_count-a.ensures (begins c.before.before.before.before.before)

pub put_count-a-requires : goal.put_count-a-requires
put_count-a-requires c = filling_room (line states_is (decimal c.args.states)) _ refl (begins c.before.before.before.before)

pub put_line-requires : goal.put_line-requires
put_line-requires c = omega (arith, filling_all (after-states c.before.before.before.before.before.before.before))

pub returns : goal.returns
returns c = filling_last c.put_line.ensures (after-states c.before.before.before.before.before.before.before.before.before.before.before)
