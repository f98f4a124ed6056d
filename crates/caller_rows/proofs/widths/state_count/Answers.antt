-- state_count meets its contract: a turn adds the states of one rule.
use native.Mathlib.Omega.{arith}
use Prim.Native.Nat.{◌+◌}
use mathlib.Core.Path.{refl, sym, ◌∙◌}
use Rattle.caller_rows.specs.Clauses.{start_of}
use Rattle.caller_rows.proofs.LevelRowLaws.{start-next}
use Rattle.caller_rows.proofs.widths.state_count.Goals as goal

pub loop-i-init : goal.loop-i-init
unfolding start_of
loop-i-init c = (refl, omega arith)

pub loop-i-preserved : goal.loop-i-preserved
loop-i-preserved c = let l = c.loop-i in
    let a = c.args in
    let s = c.rule_states-q.ensures in (
      (λ j. l.invariant.0 j + s.0 j) ∙ sym (start-next a.lengths.now a.widths.now l.i),
      omega (arith, s.1, l.invariant.1),
    )
