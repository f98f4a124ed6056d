use Rattle.caller_rows.specs.Clauses.{SegmentRanked}
use Rattle.caller_rows.proofs.ranks.rank_segment.Given as goal

abbrev pub invariant-loop-k : goal.invariant-loop-k
invariant-loop-k l = SegmentRanked l.callers l.from l.k l.initial.ranks l.ranks
