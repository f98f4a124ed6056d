use mathlib.Core.Path.{◌≡◌}
use Prim.Native.Nat.{ℕ, ◌-◌, ◌*◌, ◌≤◌, ◌<◌}
use mathlib.Core.Bool.{false}
use lib.ListN.{length}
use Rattle.triples.specs.Certificate.{is_set}
use Rattle.certificate_check.proofs.scan.lowest_set.Given as goal

abbrev pub invariant-loop-i : goal.invariant-loop-i
invariant-loop-i l = (l.from ≤ l.i) × (l.i ≤ 8 * length l.bytes) × ((k : ℕ) → l.from ≤ k → k < l.i → k < l.to → is_set l.bytes k ≡ false)

abbrev pub decreases-loop-i : goal.decreases-loop-i
decreases-loop-i l = 8 * length l.bytes - l.i
