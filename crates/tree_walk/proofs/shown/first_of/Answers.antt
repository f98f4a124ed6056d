-- first_of meets its contract: what was passed over begins no such rule.
use native.Mathlib.Omega.{arith}
use native.Mathlib.Decide.{ℕ_discrete}
use mathlib.Core.Path.{subst}
use Prim.Native.Nat.{◌-◌}
use Rattle.tree_walk.specs.Charted.{rows_of, width, Begins}
use Rattle.tree_walk.proofs.shown.first_of.Goals as goal

pub returns-then-begins : goal.returns-then-begins
returns-then-begins c = record { upper_bound = c.if-last-rows.true; by_index = λ s a x. c.begins.ensures.begins c.if-begins.true }

pub returns-then-begins-2 : goal.returns-then-begins-2
returns-then-begins-2 c = record { upper_bound = omega arith; by_index = λ s a x. c.begins-in-loop-s.ensures.begins c.if-begins-2.true }

pub loop-s-preserved : goal.loop-s-preserved
loop-s-preserved c = let a = c.args in
    let r = a.rows.now in
    λ s o x. elim (ℕ_discrete s c.loop-s.s) [
      | yes f ↦ c.begins-in-loop-s.ensures.fact c.if-begins-2.false (subst (Begins a.work.now r.ahead.now r.lead.now (width (rows_of r)) a.b a.i a.k) f x)
      | no f ↦ c.loop-s.invariant s (omega arith) x
    ]

pub returns : goal.returns
returns c = let a = c.args in
    let r = a.rows.now in record {
      upper_bound = omega (arith, c.requires.states_le_max_states);
      by_index = λ s o x. elim (ℕ_discrete s (r.states - 1)) [
        | yes f ↦ subst (Begins a.work.now r.ahead.now r.lead.now (width (rows_of r)) a.b a.i a.k) f x
        | no f ↦ absurd (c.loop-s.invariant s (omega arith) x)
      ];
    }
