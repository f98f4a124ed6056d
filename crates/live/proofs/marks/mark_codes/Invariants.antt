use Rattle.live.proofs.MarkLaws.{CodesMarked}
use Rattle.live.proofs.marks.mark_codes.Given as goal

abbrev pub invariant-loop-x : goal.invariant-loop-x
invariant-loop-x l = CodesMarked l.codes l.x-index l.initial.marks l.marks l.n
