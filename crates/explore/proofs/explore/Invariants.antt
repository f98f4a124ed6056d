use Prim.Native.Nat.{◌-◌, ◌*◌, ◌≤◌}
use mathlib.Core.Path.{◌≡◌}
use lib.ListN.{length}
use Rattle.triples.specs.Index.{triple_count}
use Rattle.plans.specs.Plan.{rows}
use Rattle.tops.specs.Tops.{tops, lows}
use Rattle.explore.specs.State.{held, most_next, looked_in}
use Rattle.explore.proofs.ExploreLaws.{Turn}
use Rattle.explore.proofs.explore.Given as goal

abbrev pub invariant-loop-head : goal.invariant-loop-head
invariant-loop-head l = Turn (rows l.ahead l.number l.member l.first l.after) l.targets l.t l.m l.q l.initial.queue (lows l.initial.parents) (tops l.initial.parents) l.head (held l.queue l.parents l.count)
    × (length l.queue ≡ length l.initial.queue)
    × (length l.parents ≡ length l.initial.parents)
    × (l.looked ≡ looked_in (rows l.ahead l.number l.member l.first l.after) l.targets l.t l.m l.q l.queue l.head)
    × (l.looked ≤ most_next * l.head)

abbrev pub decreases-loop-head : goal.decreases-loop-head
decreases-loop-head l = triple_count l.q - l.head
