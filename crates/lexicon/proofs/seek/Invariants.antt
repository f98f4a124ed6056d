use Prim.Native.Nat.{◌≤◌, ◌<◌, ◌-◌}
use Rattle.lexicon.specs.Tree.{name_of}
use Rattle.lexicon.proofs.Tree.{Still, Led}
use Rattle.lexicon.proofs.seek.Given as goal

abbrev pub invariant-loop-count : goal.invariant-loop-count
invariant-loop-count l = (l.q < l.count) × (l.d ≤ l.q) × Still (name_of l.text l.starts l.lengths) l.links l.count l.x l.q l.d × Led (name_of l.text l.starts l.lengths) l.links l.count l.x l.q l.d

abbrev pub decreases-loop-count : goal.decreases-loop-count
decreases-loop-count l = l.count - l.q
