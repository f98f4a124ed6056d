-- pairs_held meets its contract: a window of columns more in each turn.
use native.Mathlib.Omega.{arith}
use mathlib.Core.Path.{◌≡◌, ap, sym, subst, ◌∙◌}
use Prim.Native.Nat.{ℕ, ◌+◌, ◌*◌, ◌<◌}
use mathlib.Core.List.{List}
use lib.ListN.{length, get_or}
use Rattle.grammar.proofs.Answers.{no_bool}
use Rattle.certificate_check.specs.Columns.{span_of, target_of, PairsTo, Met, ColumnsMet}
use Rattle.certificate_check.proofs.ColumnLaws.{pairs-none, pairs-more, rows_fit}
use Rattle.certificate_check.proofs.columns.pairs_held.Reads as reads
use Rattle.certificate_check.proofs.columns.pairs_held.Lts as lts
use Rattle.certificate_check.proofs.columns.pairs_held.Goals as goal
use Rattle.certificate_check.proofs.columns.pairs_held.Lts as lts
use Rattle.certificate_check.proofs.columns.pairs_held.Reads as reads
use Rattle.certificate_check.proofs.columns.pairs_held.Tie as tie

abbrev Place-After-from3 : Type 0
Place-After-from3 = lts.After-from3 tie.the-claims reads.Pre reads.Post goal.the-invariant-loop-k goal.the-decreases-loop-k tie.handed_clauses

abbrev Place-After-from6 : Type 0
Place-After-from6 = lts.After-from6 tie.the-claims reads.Pre reads.Post goal.the-invariant-loop-k goal.the-decreases-loop-k tie.handed_clauses

abbrev Place-After-from7 : Type 0
Place-After-from7 = lts.After-from7 tie.the-claims reads.Pre reads.Post goal.the-invariant-loop-k goal.the-decreases-loop-k tie.handed_clauses

-- what is looked up are the bounds of a class
bounds : (first : List ℕ) (kind c lo hi : ℕ) → c ≡ kind → lo ≡ get_or first c 0 → hi ≡ get_or first (c + 1) 0 → (lo ≡ get_or first kind 0) × (hi ≡ get_or first (kind + 1) 0)
bounds first kind c lo hi k l h = (l ∙ ap (λ (n : ℕ). get_or first n 0) k, h ∙ ap (λ (n : ℕ). get_or first (n + 1) 0) k)

left_bounds : (c : Place-After-from3) → let a = c.args in
    (c.from-rows.result ≡ get_or a.first.now a.left 0) × (c.from.result ≡ get_or a.first.now (a.left + 1) 0)
left_bounds c =
    let a = c.args in bounds a.first.now a.left c.from-c.result c.from-rows.result c.from.result c.from-c.ensures c.from-rows.ensures c.from.ensures

right_bounds : (c : Place-After-from6) → let a = c.args in
    (c.from-from.result ≡ get_or a.first.now a.right 0) × (c.from-2.result ≡ get_or a.first.now (a.right + 1) 0)
right_bounds c =
    let a = c.args in bounds a.first.now a.right c.from-d.result c.from-from.result c.from-2.result c.from-d.ensures c.from-from.ensures c.from-2.ensures

-- the target at which a window begins is a state
begins : (c : Place-After-from7) → c.from-begin.result < c.args.q
begins c =
    let a = c.args in let l = c.loop-k in
    let u : c.from-begin.result ≡ target_of a.first.now a.targets.now a.right l.k = c.from-begin.ensures ∙ ap (λ (n : ℕ). get_or a.targets.now (n + l.k) 0) l.invariant.3 in
    subst (λ (n : ℕ). n < a.q) (sym u) (c.requires.placed_2.each l.k (omega (arith, l.invariant.4, c.loop-k-test.true)))

pub returns-then-bytes-lt8 : goal.returns-then-bytes-lt8
returns-then-bytes-lt8 c = λ q. no_bool (sym q)

pub overflow_sub-height : goal.overflow_sub-height
overflow_sub-height c = omega (arith, (left_bounds c.before).0, (left_bounds c.before).1, c.requires.placed.order)

pub overflow_sub-span : goal.overflow_sub-span
overflow_sub-span c = omega (arith, (right_bounds c.before).0, (right_bounds c.before).1, c.requires.placed_2.order)

pub loop-k-init : goal.loop-k-init
loop-k-init c = let l = left_bounds c.before.before.before.before.before.before in let r = right_bounds c.before in
    (omega arith, l.0, omega (arith, l.0, l.1), r.0, omega (arith, r.0, r.1), pairs-none _ _ _ _ _ _)

pub index_of-base-requires : goal.index_of-base-requires
index_of-base-requires c = (c.requires.q_le_max_states.0, omega arith, omega arith, omega (arith, begins c.before, c.requires.q_le_max_states.0))

pub meet-near-requires : goal.meet-near-requires
meet-near-requires c = let a = c.args in let l = c.loop-k in
    let f = rows_fit a.first.now a.targets.now a.q a.bytes.now a.left c.from-begin.result c.index_of-base.result c.requires.q_le_max_states.0 c.requires.placed (begins c.before.before) c.index_of-base.ensures in record {
      in_bounds = (c.if-bytes-lt8.false, c.requires.q_le_max_states.0, omega (arith, f.0, l.invariant.1, l.invariant.2), f.1);
      by_index = λ g h. subst (λ (u : ℕ). c.index_of-base.result + u * a.q < 8 * length a.bytes.now) (ap (λ (n : ℕ). get_or a.targets.now (n + g) 0) (sym l.invariant.1))
          (omega (arith, f.2 g (omega (arith, l.invariant.2, h)), c.requires.q_le_max_states.1));
    }

pub columns_met-next-requires : goal.columns_met-next-requires
columns_met-next-requires c = let l = c.loop-k in
    (omega (arith, l.invariant.3, l.invariant.4, c.requires.placed_2.order, c.requires.placed_2.inside), l.invariant.0)

pub returns-then-next-k : goal.returns-then-next-k
returns-then-next-k c = λ q. no_bool (sym q)

pub loop-k-preserved : goal.loop-k-preserved
loop-k-preserved c = let a = c.args in let l = c.loop-k in let v = l.invariant in
    let r = c.columns_met-next.result in (
      c.columns_met-next.ensures.0,
      v.1,
      v.2,
      v.3,
      v.4,
      pairs-more a.first.now a.targets.now a.q a.bytes.now a.left a.right l.k r c.from-begin.result c.index_of-base.result c.meet-near.result
          v.5 c.requires.placed c.requires.placed_2 c.requires.q_le_max_states.1 c.index_of-base.ensures
          (subst (λ (n : ℕ). Met a.bytes.now a.targets.now a.q n (span_of a.first.now a.left) c.index_of-base.result c.meet-near.result) v.1
          (subst (λ (n : ℕ). Met a.bytes.now a.targets.now a.q c.from-rows.result n c.index_of-base.result c.meet-near.result) v.2 c.meet-near.ensures))
          (subst (λ (n : ℕ). ColumnsMet a.targets.now c.meet-near.result c.from-begin.result n l.k r) v.3 c.columns_met-next.ensures.1)
          (omega (arith, c.columns_met-next.ensures.0, v.4)),
    )

pub returns : goal.returns
returns c = λ q.
    let a = c.args in
    let l = c.loop-k in
    let h : l.k ≡ span_of a.first.now a.right = omega (arith, l.invariant.0, l.invariant.4, c.loop-k-test.false) in
    subst (PairsTo a.first.now a.targets.now a.q a.bytes.now a.left a.right) h l.invariant.5
