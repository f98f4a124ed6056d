-- `report::put::put_unambiguous` meets its contract: Q, the verdict, the size. Assumes nothing.
use native.Mathlib.Omega.{arith}
use mathlib.Core.Path.{refl}
use mathlib.Core.List.{List, ◌++◌}
use Prim.Native.Nat.{ℕ}
use Rattle.text_write.proofs.Filling.{Filling, filling_start, filling_room, filling_ran, filling_last, filling_all}
use Rattle.text.specs.Numbers.{decimal}
use Rattle.report.specs.Report.{line, states_is, verdict_is, reached_is, unambiguous}
use Rattle.report.specs.Clauses.{unambiguous_lines}
use Rattle.report.proofs.put.put_unambiguous.Goals as goal
use Rattle.report.proofs.put.put_unambiguous.Lts as lts
use Rattle.report.proofs.put.put_unambiguous.Reads as reads
use Rattle.report.proofs.put.put_unambiguous.Tie as tie

abbrev Start : Type 0
Start = lts.Start tie.the-claims reads.Pre reads.Post

abbrev Place-After-put_count : Type 0
Place-After-put_count = lts.After-put_count tie.the-claims reads.Pre reads.Post

abbrev Place-After-put_line : Type 0
Place-After-put_line = lts.After-put_line tie.the-claims reads.Pre reads.Post

-- this is still to come
abbrev Still : Start → ℕ → List ℕ → List ℕ → Type 0
Still s j now rest = Filling 0 s.args.out.now (unambiguous_lines s.args.states s.args.reached) j now rest

begins : (s : Start) → Still s 0 s.args.out.now (unambiguous_lines s.args.states s.args.reached)
begins s = filling_start 0 _ _ (omega (arith, s.requires))

after-states : (c : Place-After-put_count) →
    Still c.before.before.before.before.before c.put_count-a.result c.put_count-a.new.out (line verdict_is unambiguous ++ line reached_is (decimal c.args.reached))
after-states c = filling_ran (line states_is (decimal c.args.states)) _ refl c.put_count-a.ensures (begins c.before.before.before.before.before)

after-verdict : (c : Place-After-put_line) →
    Still c.before.before.before.before.before.before.before.before.before.before.before.before.before c.put_line-b.result c.put_line-b.new.out (line reached_is (decimal c.args.reached))
after-verdict c = filling_ran (line verdict_is unambiguous) _ refl c.put_line-b.ensures (after-states c.before.before.before.before.before.before.before.before)

pub put_count-a-requires : goal.put_count-a-requires
put_count-a-requires c = filling_room (line states_is (decimal c.args.states)) _ refl (begins c.before.before.before.before)

pub put_line-b-requires : goal.put_line-b-requires
put_line-b-requires c = filling_room (line verdict_is unambiguous) _ refl (after-states c.before.before.before.before.before.before.before)

pub put_count-requires : goal.put_count-requires
put_count-requires c = omega (arith, filling_all (after-verdict c.before.before.before.before.before))

pub returns : goal.returns
returns c = filling_last c.put_count.ensures (after-verdict c.before.before.before.before.before.before.before.before.before)
