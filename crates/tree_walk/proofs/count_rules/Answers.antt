-- count_rules meets its contract: before each turn so many rules are written as are counted.
use native.Mathlib.Omega.{arith}
use mathlib.Core.Path.{◌≡◌, subst}
use Prim.Native.Nat.{◌+◌}
use Rattle.tree_walk.specs.Charted.{rows_of}
use Rattle.tree_walk.proofs.Totals.{found_none, found_some, Counting, counting_start, counting_walks, counting_more, counting_over, counting_end}
use Rattle.tree_walk.proofs.count_rules.Goals as goal

pub loop-count-init : goal.loop-count-init
loop-count-init c = λ g b. counting_start c.root-walker.ensures b

pub next_rule-requires-clause-walks : goal.next_rule-requires-clause-walks
next_rule-requires-clause-walks c = let s = c.requires.starts in counting_walks (c.loop-count.invariant s.course s.begun)

pub returns-then-is_none : goal.returns-then-is_none
returns-then-is_none c = λ g b. let k = c.loop-count.invariant g b in
    counting_end c.next_rule.new.work c.args.limit k (omega arith)
    (found_none (rows_of c.args.rows.now) g k.written c.next_rule.new.work c.next_rule.new.walker c.next_rule.result c.if-is_none.ensures (c.next_rule.ensures g k.written k.at))

pub loop-count-preserved : goal.loop-count-preserved
loop-count-preserved c = λ g b. let k = c.loop-count.invariant g b in
    let f = found_some (rows_of c.args.rows.now) g k.written c.next_rule.new.work c.next_rule.new.walker c.next_rule.result c.if-is_none.ensures (c.next_rule.ensures g k.written k.at) in
    counting_more f.0 k f.1

pub returns : goal.returns
returns c = λ g b. let n : c.loop-count.count ≡ c.args.limit + 1 = omega arith in
    counting_over (subst (Counting (rows_of c.args.rows.now) g c.loop-count.work c.loop-count.walker) n (c.loop-count.invariant g b))
