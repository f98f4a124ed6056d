use Rattle.std.proofs.Common.{ℕ, ◌<◌, ◌≡◌, get_or}
use Rattle.chart_fill.proofs.ends.Given as goal

abbrev pub invariant-loop-p : goal.invariant-loop-p
invariant-loop-p l = (s : ℕ) → s < l.p → get_or l.ahead s 0 ≡ 0 → get_or l.mark-items s 0 ≡ 1
