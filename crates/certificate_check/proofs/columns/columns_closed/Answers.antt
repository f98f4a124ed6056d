-- columns_closed meets its contract: what is held before the column looked at is closed, and the window has what is held from it on.
use native.Mathlib.Omega.{arith}
use mathlib.Core.Path.{◌≡◌, sym, subst}
use borrow.Author.Tests.{eqb-true}
use Prim.Native.Nat.{ℕ, ◌+◌, ◌-◌, ◌*◌, ◌/◌, ◌%◌, ◌^◌, ◌<◌}
use lib.Pow.{pow_pos}
use Rattle.grammar.proofs.Answers.{no_bool}
use Rattle.triples.specs.Index.{index}
use Rattle.triples.proofs.Index.{index_below}
use Rattle.bits.specs.Windows.{Columns, Window}
use Rattle.bits.proofs.WindowLaws.{columns_window, window_next, lowest-within}
use Rattle.plans.specs.Plan.{rows}
use Rattle.plans.proofs.PlanLaws.{layer_le}
use Rattle.certificate_check.specs.Columns.{ClosedAt}
use Rattle.certificate_check.proofs.ColumnLaws.{meet_fits, near-held, wide_mask, closed_none, closed-more, closed-end}
use Rattle.certificate_check.proofs.columns.columns_closed.Reads as reads
use Rattle.certificate_check.proofs.columns.columns_closed.Lts as lts
use Rattle.certificate_check.proofs.columns.columns_closed.Goals as goal
use Rattle.certificate_check.proofs.columns.columns_closed.Lts as lts
use Rattle.certificate_check.proofs.columns.columns_closed.Reads as reads
use Rattle.certificate_check.proofs.columns.columns_closed.Tie as tie

abbrev Start : Type 0
Start = lts.Start tie.the-claims reads.Pre reads.Post goal.the-invariant-loop-w goal.the-decreases-loop-w tie.handed_clauses

abbrev Place-After-lowest_one : Type 0
Place-After-lowest_one = lts.After-lowest_one tie.the-claims reads.Pre reads.Post goal.the-invariant-loop-w goal.the-decreases-loop-w tie.handed_clauses

pub returns-then-bytes-lt8 : goal.returns-then-bytes-lt8
returns-then-bytes-lt8 c = record { closed_from = λ q. no_bool (sym q); noted_2 = c.requires.noted }

pub side_of-x-requires : goal.side_of-x-requires
side_of-x-requires c = c.requires.verified.fits.side c.args.a c.requires.f_bound.1

pub index_of-base-requires : goal.index_of-base-requires
index_of-base-requires c = let l = layer_le c.args.m c.args.f c.side_of-x.result in
    (c.requires.verified.fits.few, omega (arith, l, c.layer_after.ensures), omega arith, omega (arith, c.requires.f_bound.2, c.requires.verified.fits.few))

pub meet-near-requires : goal.meet-near-requires
meet-near-requires c = let R = rows c.args.ahead.now c.args.number.now c.args.member.now c.args.first.now c.args.after.now in let a = c.args in let f = meet_fits R a.targets.now a.t a.m a.q a.f a.a a.b c.side_of-x.result c.layer_after.result c.index_of-base.result c.requires.verified c.requires.f_bound.1 c.side_of-x.ensures c.layer_after.ensures c.index_of-base.ensures c.requires.f_bound.2 in
    record { in_bounds = (c.if-bytes-lt8.false, c.requires.verified.fits.few, f.0, f.1); by_index = λ k h. let z = f.2 k h in omega (arith, z, c.requires.f_bound.5) }

pub index_of-requires : goal.index_of-requires
index_of-requires c = (c.requires.verified.fits.few, omega (arith, c.requires.f_bound.0), omega (arith, c.requires.f_bound.1, c.requires.verified.fits.few), omega (arith, c.requires.f_bound.2, c.requires.verified.fits.few))

pub wide_window-window-requires : goal.wide_window-window-requires
wide_window-window-requires c = let a = c.args in
    let h = index_below a.q a.f a.a a.b (omega (arith, c.requires.f_bound.0)) c.requires.f_bound.1 c.requires.f_bound.2 in
    (c.if-bytes-lt8.false, omega (arith, h, c.index_of.ensures, c.requires.f_bound.5))

pub overflow_shl-w : goal.overflow_shl-w
overflow_shl-w c = omega (arith, c.requires.f_bound.4)

pub nonzero_rem-w : goal.nonzero_rem-w
nonzero_rem-w c = subst (λ (m : ℕ). 0 < m) (sym (wide_mask c.args.n c.requires.f_bound.4)) (pow_pos c.args.n)

pub loop-w-init : goal.loop-w-init
loop-w-init c = let R = rows c.args.ahead.now c.args.number.now c.args.member.now c.args.first.now c.args.after.now in let a = c.args in let i = index a.q a.f a.a a.b in let p = c.requires.f_bound in
    let h = index_below a.q a.f a.a (a.q - 1) (omega (arith, p.0)) p.1 (omega (arith, p.1)) in
    let w = columns_window a.bytes.now i a.n c.wide_window-window.result (subst (λ (i : ℕ). Columns a.bytes.now i c.wide_window-window.result) c.index_of.ensures c.wide_window-window.ensures) p.4 (omega (arith, h, p.3, p.5)) in
    let z : i ≡ i + 0 = omega arith in (
      omega arith,
      subst (λ (i' : ℕ). Window a.bytes.now i' (i + a.n) (c.wide_window-window.result % ((1 * 2 ^ a.n) % 2 ^ 64))) z
          (subst (λ (m : ℕ). Window a.bytes.now i (i + a.n) (c.wide_window-window.result % m)) (sym (wide_mask a.n p.4)) w),
      closed_none R a.targets.now a.t a.m a.q a.bytes.now i,
      c.requires.noted,
    )

-- the column lies among the n
within : (c : Place-After-lowest_one) → c.loop-w.c + c.lowest_one-k.result < c.args.n
within c =
    let a = c.args in let l = c.loop-w in let i = index a.q a.f a.a a.b in
    let h = lowest-within a.bytes.now (i + l.c) (i + a.n) l.w c.lowest_one-k.result l.invariant.1 c.lowest_one-k.ensures in
    omega (arith, h)

pub overflow_add-c : goal.overflow_add-c
overflow_add-c c = omega (arith, within c.before, c.requires.f_bound.4)

pub overflow_shr-held : goal.overflow_shr-held
overflow_shr-held c = omega (arith, within c.before, c.requires.f_bound.4)

pub overflow_add-b : goal.overflow_add-b
overflow_add-b c = let p = c.requires in omega (arith, within c.before, p.f_bound.3, p.verified.fits.few)

pub column_held-requires : goal.column_held-requires
column_held-requires c = let R = rows c.args.ahead.now c.args.number.now c.args.member.now c.args.first.now c.args.after.now in let a = c.args in let p = c.requires.f_bound in
    let d = c.loop-w.c + c.lowest_one-k.result in let h = within c.before.before in record {
      verified = c.requires.verified;
      f_bound = (p.0, p.1, omega (arith, h, p.3), p.5);
      x_value = c.side_of-x.ensures;
      left_held = λ z. near-held R a.targets.now a.t a.m a.q a.f a.a a.b c.side_of-x.result c.layer_after.result c.index_of-base.result c.requires.verified p.1 c.side_of-x.ensures c.layer_after.ensures c.index_of-base.ensures
          a.bytes.now c.meet-near.result d (omega (arith, h, p.3)) (omega (arith, h, p.4)) p.5 c.meet-near.ensures (eqb-true (c.meet-near.result / 2 ^ d % 2) 1 z);
      noted = c.loop-w.invariant.3;
    }

pub returns-then-not-column_held : goal.returns-then-not-column_held
returns-then-not-column_held c = record { closed_from = λ q. no_bool (sym q); noted_2 = c.column_held.ensures.noted_2 }

pub overflow_add-c-in-loop-w : goal.overflow_add-c-in-loop-w
overflow_add-c-in-loop-w c = omega (arith, within c.before.before.before.before, c.requires.f_bound.4)

pub overflow_shr-w : goal.overflow_shr-w
overflow_shr-w c = omega (arith, c.lowest_one-k.ensures.most)

pub loop-w-smaller : goal.loop-w-smaller
loop-w-smaller c = omega (arith, within c.before.before.before.before)

pub loop-w-preserved : goal.loop-w-preserved
loop-w-preserved c = let R = rows c.args.ahead.now c.args.number.now c.args.member.now c.args.first.now c.args.after.now in let a = c.args in let l = c.loop-w in
    let i = index a.q a.f a.a a.b in let k = c.lowest_one-k.result in let h = within c.before.before.before.before in
    let closed = c.column_held.ensures.closed_at (c.if-not-column_held.false) in
    let z : index a.q a.f a.a (a.b + (l.c + k)) ≡ i + (l.c + k) = omega arith in (
      omega (arith, h),
      window_next a.bytes.now (i + l.c) (i + a.n) l.w k (i + (l.c + k + 1)) l.invariant.1 (omega (arith, h)) (omega arith),
      closed-more R a.targets.now a.t a.m a.q a.bytes.now i l.c k (i + a.n) l.w l.invariant.2 l.invariant.1 c.lowest_one-k.ensures
          (subst (ClosedAt R a.targets.now a.t a.m a.q a.bytes.now) z closed),
      c.column_held.ensures.noted_2,
    )

pub returns : goal.returns
returns c = let R = rows c.args.ahead.now c.args.number.now c.args.member.now c.args.first.now c.args.after.now in let a = c.args in let l = c.loop-w in
    record { closed_from = λ q. closed-end R a.targets.now a.t a.m a.q a.bytes.now (index a.q a.f a.a a.b) l.c a.n l.w l.invariant.2 l.invariant.1 c.loop-w-test.false; noted_2 = l.invariant.3 }
