-- mention meets its contract: the links lead through all states before the nonterminal.
use Prim.Native.Nat.{◌+◌, ◌/◌}
use mathlib.Core.Path.{refl, ◌∙◌}
use native.Mathlib.Omega.{arith}
use lib.ListN.{length-set}
use Rattle.chart.specs.Rows.{block}
use Rattle.chart.proofs.Links.{mention_start, mention_turn, mention_end}
use Rattle.chart.proofs.Covers.{cover_set}
use Rattle.chart.proofs.mention.Goals as goal

pub loop-p-init : goal.loop-p-init
loop-p-init c = (mention_start c.args.rows.now.wired.linked c.args.c c.args.flags.now _ refl, refl, λ C. C)

pub overflow_add-flags : goal.overflow_add-flags
overflow_add-flags c = omega (arith, c.loop-p.invariant.0.room, c.args.rows.now.wired.linked.few)

pub bounds-flags-p : goal.bounds-flags-p
bounds-flags-p c = omega (arith, c.loop-p.invariant.0.room, c.loop-p.invariant.0.size, c.requires.states_in_bounds.0)

pub overflow_add-blocks : goal.overflow_add-blocks
overflow_add-blocks c = omega (arith, c.loop-p.invariant.0.room, c.args.rows.now.wired.linked.few)

pub bounds-blocks-p : goal.bounds-blocks-p
bounds-blocks-p c = omega (arith, c.loop-p.invariant.0.room, c.loop-p.invariant.1, c.requires.states_in_bounds.1)

pub offset_bounds-next-p : goal.offset_bounds-next-p
offset_bounds-next-p c = omega (arith, c.loop-p.invariant.0.room, c.args.rows.now.wired.linked.few)

pub bounds-next-p : goal.bounds-next-p
bounds-next-p c = omega (arith, c.loop-p.invariant.0.room, c.args.rows.now.wired.linked.few)

pub loop-p-smaller : goal.loop-p-smaller
loop-p-smaller c = omega (arith, c.args.rows.now.wired.linked.nexts c.loop-p.p (omega arith) (omega (arith, c.loop-p.invariant.0.room)))

pub loop-p-preserved : goal.loop-p-preserved
loop-p-preserved c = let k = c.loop-p in (
  mention_turn c.args.rows.now.wired.linked _ k.invariant.0 c.requires.states_in_bounds.0 (omega arith) refl,
  length-set k.blocks ((k.p + 1) / block) 1 ∙ k.invariant.1,
  λ C. cover_set (k.p + 1) (omega (arith, k.invariant.0.room, k.invariant.1, c.requires.states_in_bounds.1)) (k.invariant.2 C),
)

pub overflow_add-top : goal.overflow_add-top
overflow_add-top c = omega (arith, c.args.rows.now.wired.linked.heads c.args.c, c.args.rows.now.wired.linked.few)

pub overflow_add-result : goal.overflow_add-result
overflow_add-result c = omega (arith, c.args.rows.now.wired.linked.heads c.args.c, c.args.rows.now.wired.linked.few)

pub shape_of-flags-then-q-top : goal.shape_of-flags-then-q-top
shape_of-flags-then-q-top c = c.loop-p.invariant.0.size

pub shape_of-blocks-then-q-top : goal.shape_of-blocks-then-q-top
shape_of-blocks-then-q-top c = c.loop-p.invariant.1

pub returns-then-q-top : goal.returns-then-q-top
returns-then-q-top c = record { flagged = mention_end c.args.rows.now.wired.linked c.loop-p.invariant.0 (omega arith); lower_bound = (omega arith, omega arith, omega (arith, c.args.rows.now.wired.linked.heads c.args.c)); covered = c.loop-p.invariant.2 }

pub shape_of-flags : goal.shape_of-flags
shape_of-flags c = c.loop-p.invariant.0.size

pub shape_of-blocks : goal.shape_of-blocks
shape_of-blocks c = c.loop-p.invariant.1

pub returns : goal.returns
returns c = record { flagged = mention_end c.args.rows.now.wired.linked c.loop-p.invariant.0 (omega arith); lower_bound = (omega arith, omega (arith, c.if-q-top.false), c.requires.q_le_states); covered = c.loop-p.invariant.2 }
