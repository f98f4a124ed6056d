use Prim.Native.Nat.{◌+◌, ◌*◌, ◌≤◌}
use mathlib.Core.Path.{◌≡◌}
use Rattle.caller_rows.specs.Clauses.{most_product, start_of}
use Rattle.caller_rows.proofs.widths.state_count.Given as goal

abbrev pub invariant-loop-i : goal.invariant-loop-i
invariant-loop-i l = (l.q ≡ start_of l.lengths l.widths l.i) × (l.q ≤ 4 + l.i * most_product)
