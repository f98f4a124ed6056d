use Rattle.std.proofs.Common.{◌≡◌, ◌+◌, length, take}
use Rattle.text.specs.Spelled.{spelled}
use Rattle.joining.specs.Gathering.{fresh, Puts}
use Rattle.joining.proofs.gathering.put_fresh.Given as goal

abbrev pub invariant-loop-i : goal.invariant-loop-i
invariant-loop-i l = (l.to ≡ l.k + length (fresh l.least (take l.i l.numbers) (take l.i (spelled l.text l.starts l.lengths))))
    × Puts (fresh l.least (take l.i l.numbers) (take l.i (spelled l.text l.starts l.lengths))) l.k l.initial.bytes l.initial.places l.initial.spans l.bytes l.places l.spans
