use Prim.Native.Nat.{◌+◌, ◌*◌}
use Rattle.live.specs.Marks.{unmarked, AllLed, AllLedMarks}
use Rattle.live.proofs.PassLaws.{Going}
use Rattle.live.proofs.passes.mark_reachable.Given as goal

abbrev pub invariant-loop-fresh : goal.invariant-loop-fresh
invariant-loop-fresh l = Going (AllLed l.rules.lefts.now l.rules.lengths.now l.rules.codes.now l.productive 0 l.rules.count) (AllLedMarks l.rules.lefts.now l.rules.lengths.now l.rules.codes.now l.productive 0 l.rules.count) l.initial.marks l.marks l.fresh

abbrev pub decreases-loop-fresh : goal.decreases-loop-fresh
decreases-loop-fresh l = 2 * unmarked l.marks + l.fresh
