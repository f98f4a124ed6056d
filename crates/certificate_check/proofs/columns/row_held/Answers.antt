-- row_held meets its contract: one target more in each turn.
use native.Mathlib.Omega.{arith}
use mathlib.Core.Path.{◌≡◌, refl, ap, sym, subst, ◌∙◌}
use Prim.Native.Nat.{ℕ, ◌+◌, ◌≤◌, ◌<◌}
use lib.ListN.{get_or}
use Rattle.grammar.proofs.Answers.{no_bool}
use Rattle.triples.specs.Certificate.{is_set}
use Rattle.certificate_check.specs.Columns.{span_of, target_of, RowTo}
use Rattle.certificate_check.proofs.ColumnLaws.{row-none, row_more, row-bit, row_times}
use Rattle.certificate_check.proofs.columns.row_held.Reads as reads
use Rattle.certificate_check.proofs.columns.row_held.Lts as lts
use Rattle.certificate_check.proofs.columns.row_held.Goals as goal
use Rattle.certificate_check.proofs.columns.row_held.Lts as lts
use Rattle.certificate_check.proofs.columns.row_held.Reads as reads
use Rattle.certificate_check.proofs.columns.row_held.Tie as tie

abbrev Place-After-from3 : Type 0
Place-After-from3 = lts.After-from3 tie.the-claims reads.Pre reads.Post goal.the-invariant-loop-k goal.the-decreases-loop-k tie.handed_clauses

abbrev Place-After-from4 : Type 0
Place-After-from4 = lts.After-from4 tie.the-claims reads.Pre reads.Post goal.the-invariant-loop-k goal.the-decreases-loop-k tie.handed_clauses

-- the bounds that are looked up are those of the class
found : (c : Place-After-from3) → let a = c.args in
    (c.from-from.result ≡ get_or a.first.now a.kind 0) × (c.from-end.result ≡ get_or a.first.now (a.kind + 1) 0)
    × (get_or a.first.now a.kind 0 ≤ get_or a.first.now (a.kind + 1) 0)
found c =
    let a = c.args in
    let k = c.from-c.ensures in
    (c.from-from.ensures ∙ ap (λ (n : ℕ). get_or a.first.now n 0) k, c.from-end.ensures ∙ ap (λ (n : ℕ). get_or a.first.now (n + 1) 0) k, c.requires.placed.order)

-- the target that is looked up is the k-th one of the class, and a state
target : (c : Place-After-from4) → let a = c.args in
    (c.from-u.result ≡ target_of a.first.now a.targets.now a.kind c.loop-k.k) × (c.from-u.result < a.q)
target c =
    let a = c.args in let l = c.loop-k in
    let u : c.from-u.result ≡ target_of a.first.now a.targets.now a.kind l.k = c.from-u.ensures ∙ ap (λ (n : ℕ). get_or a.targets.now (n + l.k) 0) l.invariant.1 in
    (u, subst (λ (n : ℕ). n < a.q) (sym u) (c.requires.placed.each l.k (omega (arith, l.invariant.2, c.loop-k-test.true))))

pub overflow_sub-span : goal.overflow_sub-span
overflow_sub-span c = let f = found c.before in omega (arith, f.0, f.1, f.2)

pub overflow_mul-base : goal.overflow_mul-base
overflow_mul-base c = omega (arith, row_times c.args.q c.args.row c.requires.q_le_max_states.0 c.requires.q_le_max_states.1)

pub loop-k-init : goal.loop-k-init
loop-k-init c = let f = found c.before in (omega arith, f.0, omega (arith, f.0, f.1), refl, row-none _ _ _ _ _ _)

pub overflow_add-base : goal.overflow_add-base
overflow_add-base c = omega (arith, c.loop-k.invariant.3, row_times c.args.q c.args.row c.requires.q_le_max_states.0 c.requires.q_le_max_states.1, c.fits-targets (c.from-from.result + c.loop-k.k))

pub is_set-requires : goal.is_set-requires
is_set-requires c = let u = target c.before in
    let h = row-bit c.args.q c.args.row c.from-u.result c.requires.q_le_max_states.1 u.1 in
    omega (arith, c.loop-k.invariant.3, h, c.requires.q_le_max_states.2)

pub returns-then-not-is_set : goal.returns-then-not-is_set
returns-then-not-is_set c = λ q. no_bool (sym q)

pub loop-k-preserved : goal.loop-k-preserved
loop-k-preserved c = let l = c.loop-k in
    let s = sym c.is_set.ensures ∙ c.if-not-is_set.false in
    let a = c.args in (
      omega arith,
      l.invariant.1,
      l.invariant.2,
      l.invariant.3,
      row_more a.first.now a.targets.now a.q a.bytes.now a.kind a.row l.k c.from-u.result l.invariant.4 (target c.before.before.before).0
          (ap (λ (n : ℕ). is_set a.bytes.now (n + c.from-u.result)) (sym l.invariant.3) ∙ s),
    )

pub returns : goal.returns
returns c = λ q.
    let a = c.args in
    let l = c.loop-k in
    let h : l.k ≡ span_of a.first.now a.kind = omega (arith, l.invariant.0, l.invariant.2, c.loop-k-test.false) in
    subst (RowTo a.first.now a.targets.now a.q a.bytes.now a.kind a.row) h l.invariant.4
