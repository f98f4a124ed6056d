-- meet meets its contract: one row more in each turn.
use borrow.Author.Rules.{rules}
use native.Mathlib.Omega.{arith}
use mathlib.Core.Path.{◌≡◌, sym, subst}
use Prim.Native.Nat.{ℕ, ◌+◌, ◌*◌, ◌≤◌, ◌<◌}
use lib.ListN.{length}
use Rattle.grammar.specs.Limits.{limits}
use Rattle.plans.proofs.PlanLaws.{cell_times}
use Rattle.certificate_check.specs.Columns.{Met}
use Rattle.certificate_check.proofs.ColumnLaws.{met_none, met_more}
use Rattle.certificate_check.proofs.columns.meet.Goals as goal
use Rattle.certificate_check.proofs.columns.meet.Lts as lts
use Rattle.certificate_check.proofs.columns.meet.Reads as reads
use Rattle.certificate_check.proofs.columns.meet.Tie as tie

abbrev Place-After-from : Type 0
Place-After-from = lts.After-from tie.the-claims reads.Pre reads.Post goal.the-invariant-loop-k goal.the-decreases-loop-k tie.handed_clauses

pub loop-k-init : goal.loop-k-init
loop-k-init c = (omega arith, met_none _ _ _ _ _ _)

-- the product that places the row
small : (c : Place-After-from) → c.from-u.result * c.args.q ≤ 65535 * limits.max_states
small c = cell_times c.from-u.result c.args.q c.requires.in_bounds.1 (search rules)

pub overflow_mul-u : goal.overflow_mul-u
overflow_mul-u c = omega (arith, small c.before)

pub overflow_add-base : goal.overflow_add-base
overflow_add-base c = omega (arith, small c.before, c.requires.in_bounds.3)

pub wide_window-w-requires : goal.wide_window-w-requires
wide_window-w-requires c = let l = c.loop-k in
    (c.requires.in_bounds.0, subst (λ (u : ℕ). c.args.base + u * c.args.q < 8 * length c.args.bytes.now) (sym c.from-u.ensures) (c.requires.by_index l.k (omega arith)))

pub loop-k-preserved : goal.loop-k-preserved
loop-k-preserved c = let l = c.loop-k in
    (omega arith, met_more _ _ _ _ _ l.k l.w c.wide_window-w.result c.from-u.result l.invariant.1 c.from-u.ensures c.wide_window-w.ensures)

pub returns : goal.returns
returns c = let a = c.args in
    let l = c.loop-k in
    let h : l.k ≡ a.span = omega arith in
    subst (λ (n : ℕ). Met a.bytes.now a.targets.now a.q a.from n a.base l.w) h l.invariant.1
