-- count_moves meets its contract: before each turn the count is that of the states before p.
use borrow.Author.Rules.{rules}
use native.Mathlib.Omega.{arith}
use Rattle.figures.specs.Sum.{sum}
use Rattle.figures.proofs.Sums.{sum_more}
use Rattle.rooms.specs.Clauses.{moves_at}
use Rattle.rooms.proofs.count_moves.Goals as goal

pub loop-p-init : goal.loop-p-init
unfolding sum
loop-p-init c = search rules

pub loop-p-preserved : goal.loop-p-preserved
loop-p-preserved c = let a = c.args in
    (omega (arith, c.moves_at-count.ensures.1), omega (arith, c.moves_at-count.ensures.0, sum_more (moves_at a.ahead.now a.member.now a.first.now) c.loop-p.p))
