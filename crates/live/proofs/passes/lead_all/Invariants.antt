use mathlib.Core.Path.{◌≡◌}
use Rattle.live.specs.Marks.{before}
use Rattle.live.proofs.PassLaws.{LedTo}
use Rattle.live.proofs.passes.lead_all.Given as goal

abbrev pub invariant-loop-i : goal.invariant-loop-i
invariant-loop-i l = (l.u ≡ before l.rules.lengths.now l.i) × LedTo l.rules.lefts.now l.rules.lengths.now l.rules.codes.now l.rules.count l.productive l.i l.initial.marks l.marks l.n
