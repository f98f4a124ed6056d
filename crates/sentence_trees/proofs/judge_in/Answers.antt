-- judge_in meets its contract: the part that is used is all 0, and the front is cleared again.
use borrow.Author.Rules.{rules}
use native.Mathlib.Omega.{arith}
use mathlib.Core.Path.{◌∙◌}
use Prim.Native.Nat.{◌+◌, ◌*◌, ◌≤◌}
use lib.ListN.{length}
use lib.Seq.{length-take-le}
use Rattle.trees.specs.Trees.{places}
use Rattle.sentence_trees.proofs.Parts.{used_fits, used-some, used-zero, clear_twice}
use Rattle.sentence_trees.proofs.judge_in.Goals as goal

pub overflow_mul-used : goal.overflow_mul-used
overflow_mul-used c = let m = length c.args.row.now + 1 in
    let z : c.args.g.now.states * m ≤ length c.args.work.now = omega (arith, used-some c.args.g.now.states m (omega (arith, c.requires.states_in_bounds)), c.requires.states_in_bounds) in
    search rules

pub overflow_mul-used-2 : goal.overflow_mul-used-2
overflow_mul-used-2 c = let m = length c.args.row.now + 1 in
    let z : c.args.g.now.states * m * m ≤ length c.args.work.now = omega (arith, used_fits c.args.g.now.states m (omega (arith, c.requires.states_in_bounds)), c.requires.states_in_bounds) in
    search rules

pub clear-requires : goal.clear-requires
clear-requires c = omega (arith, used_fits c.args.g.now.states (length c.args.row.now + 1) (omega (arith, c.requires.states_in_bounds)), c.requires.states_in_bounds)

pub slice_bounds-judge-end : goal.slice_bounds-judge-end
slice_bounds-judge-end c = omega (arith, used_fits c.args.g.now.states (length c.args.row.now + 1) (omega (arith, c.requires.states_in_bounds)), c.clear.auto.row, c.requires.states_in_bounds)

pub judge-outcome-requires : goal.judge-outcome-requires
judge-outcome-requires c = let Q = c.args.g.now.states in
    let m = length c.args.row.now + 1 in
    let fits : Q * m * m ≤ length c.clear.new.row = omega (arith, used_fits Q m (omega (arith, c.requires.states_in_bounds)), c.clear.auto.row, c.requires.states_in_bounds) in record {
      fact = c.requires.fact;
      row_in_bounds = (omega (arith, length-take-le (Q * m * m) c.clear.new.row fits), c.requires.states_in_bounds.1);
      zeros = λ k. used-zero (Q * m * m) (Q * m * m) k c.args.work.now c.clear.new.row (omega arith) c.clear.ensures;
    }

pub returns : goal.returns
returns c = let Q = c.args.g.now.states in
    let m = length c.args.row.now + 1 in
    let few : Q * m * m ≤ places * places * Q = used_fits Q m (omega (arith, c.requires.states_in_bounds)) in
    let fits : Q * m * m ≤ length c.clear.new.row = omega (arith, few, c.clear.auto.row, c.requires.states_in_bounds) in record {
      judges = c.judge-outcome.ensures;
      work_after = c.clear-2.ensures
          ∙ clear_twice (places * places * Q) (Q * m * m) c.judge-outcome.new.work c.args.work.now c.clear.new.row (c.judge-outcome.auto.work ∙ length-take-le (Q * m * m) c.clear.new.row fits) few c.clear.ensures;
    }
