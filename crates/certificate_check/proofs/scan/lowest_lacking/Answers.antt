-- lowest_lacking meets its contract: no index below the one looked at lacks a successor; columns are closed together, or the plan
-- counts off the successors of one.
use native.Mathlib.Omega.{arith}
use mathlib.Core.Path.{◌≡◌, refl, sym, subst, ◌∙◌}
use Prim.Native.Nat.{ℕ, ◌+◌, ◌*◌, ◌≤◌, ◌<◌}
use mathlib.Core.List.{List}
use Rattle.triples.specs.Index.{triple_count}
use Rattle.bits.specs.Windows.{wide_bits}
use Rattle.moves.specs.Clauses.{classes}
use Rattle.plans.specs.declared.Plan.{Plan}
use Rattle.plans.specs.Plan.{Rows, rows, plan_of}
use Rattle.plans.specs.Clauses.{Safe}
use Rattle.plans.proofs.PlanLaws.{square-of}
use Rattle.certificate_check.specs.Columns.{ClosedFrom}
use Rattle.certificate_check.proofs.ColumnLaws.{note_none}
use Rattle.certificate_check.proofs.ScanLaws.{NextSet, held_more, plan-at, columns_in, next-inside, next-set, none-start, none_window, closed-tried, scan-found, scan-none}
use Rattle.certificate_check.proofs.scan.lowest_lacking.Reads as reads
use Rattle.certificate_check.proofs.scan.lowest_lacking.Lts as lts
use Rattle.certificate_check.proofs.scan.lowest_lacking.Goals as goal
use Rattle.certificate_check.proofs.scan.lowest_lacking.Goals.{then-not-columns_closed+else-loop-k-test, else-not-columns_closed}
use Rattle.certificate_check.proofs.scan.lowest_lacking.Lts as lts
use Rattle.certificate_check.proofs.scan.lowest_lacking.Reads as reads
use Rattle.certificate_check.proofs.scan.lowest_lacking.Tie as tie

abbrev Place-After-together : Type 0
Place-After-together = lts.After-together tie.the-claims reads.Pre reads.Post goal.the-invariant-loop-k goal.the-decreases-loop-k goal.the-invariant-scan goal.the-decreases-scan tie.handed_clauses

abbrev Place-After-plan_of : Type 0
Place-After-plan_of = lts.After-plan_of tie.the-claims reads.Pre reads.Post goal.the-invariant-loop-k goal.the-decreases-loop-k goal.the-invariant-scan goal.the-decreases-scan tie.handed_clauses

abbrev Place-Joined1 : Type 0
Place-Joined1 = lts.Joined1 tie.the-claims reads.Pre reads.Post goal.the-invariant-loop-k goal.the-decreases-loop-k goal.the-invariant-scan goal.the-decreases-scan tie.handed_clauses

abbrev Place-After-lowest_set2 : Type 0
Place-After-lowest_set2 = lts.After-lowest_set2 tie.the-claims reads.Pre reads.Post goal.the-invariant-loop-k goal.the-decreases-loop-k goal.the-invariant-scan goal.the-decreases-scan tie.handed_clauses

pub overflow_mul-count : goal.overflow_mul-count
overflow_mul-count c = let squares = square-of c.args.q c.requires.verified.fits.four c.requires.verified.fits.few in omega (arith, squares)

pub overflow_mul-count-2 : goal.overflow_mul-count-2
overflow_mul-count-2 c = let squares = square-of c.args.q c.requires.verified.fits.four c.requires.verified.fits.few in omega (arith, squares)

pub inverse_of-inverse-requires : goal.inverse_of-inverse-requires
inverse_of-inverse-requires c = omega (arith, c.requires.verified.fits.four)

pub lowest_set-i-requires : goal.lowest_set-i-requires
lowest_set-i-requires c = (omega arith, c.requires.q_bound.0, c.requires.q_bound.1)

pub scan-init : goal.scan-init
scan-init c = let R = rows c.args.ahead.now c.args.number.now c.args.member.now c.args.first.now c.args.after.now in let a = c.args in
    let n = next-set a.bytes.now 0 (2 * (a.q * a.q)) c.lowest_set-i.result (omega arith) c.lowest_set-i.ensures in (
      refl,
      n.high,
      n.set,
      none-start R a.targets.now a.t a.m a.q a.bytes.now (2 * (a.q * a.q)) c.lowest_set-i.result n,
      note_none a.first.now a.targets.now a.q a.bytes.now classes,
    )

pub digits_of-d-requires : goal.digits_of-d-requires
digits_of-d-requires c = let v = c.requires.verified.fits in
    (v.four, v.few, c.scan-test.true, c.inverse_of-inverse.ensures)

pub overflow_sub-q : goal.overflow_sub-q
overflow_sub-q c = omega (arith, c.digits_of-d.ensures.2)

pub together-n-requires : goal.together-n-requires
together-n-requires c = omega (arith, c.digits_of-d.ensures.2)

-- the columns that are tried together
tried-columns : (c : Place-After-together) → let a = c.args in let n = c.together-n.result in let i = c.scan.i in
    (c.digits_of-d.result.right + n ≤ a.q) × (n ≤ wide_bits) × (0 < n) × (i + n ≤ triple_count a.q)
tried-columns c =
    let a = c.args in let n = c.together-n.ensures in let x = c.digits_of-d.ensures in let s = c.scan in
    let h : c.digits_of-d.result.right + c.together-n.result ≤ a.q = omega (arith, n.1, x.2) in (
      h,
      n.2,
      n.0,
      columns_in a.q s.i c.digits_of-d.result.layer c.digits_of-d.result.left c.digits_of-d.result.right c.together-n.result x.0 x.1 h x.3,
    )

pub overflow_add-past : goal.overflow_add-past
overflow_add-past c = let squares = square-of c.args.q c.requires.verified.fits.four c.requires.verified.fits.few in omega (arith, (tried-columns c.before).3, squares)

pub columns_closed-requires : goal.columns_closed-requires
columns_closed-requires c = let x = c.digits_of-d.ensures in let h = tried-columns c.before.before in
    record { verified = c.requires.verified; f_bound = (x.0, x.1, x.2, h.0, h.1, c.requires.q_bound.0); noted = c.scan.invariant.4 }

pub overflow_add-past-then-not-columns_closed : goal.overflow_add-past-then-not-columns_closed
overflow_add-past-then-not-columns_closed c = let squares = square-of c.args.q c.requires.verified.fits.four c.requires.verified.fits.few in omega (arith, c.scan-test.true, squares)

pub plan_of-plan-requires : goal.plan_of-plan-requires
plan_of-plan-requires c = let x = c.digits_of-d.ensures in record { fits = c.requires.verified.fits; f_bound = (x.0, x.1, x.2) }

pub loop-k-init : goal.loop-k-init
loop-k-init c = (c.scan.invariant.0, omega arith, λ h l. absurd (omega arith))

-- the plan is that of the index
of-index : (c : Place-After-plan_of) → c.plan_of-plan.result ≡ plan_of (rows c.args.ahead.now c.args.number.now c.args.member.now c.args.first.now c.args.after.now) c.args.t c.args.m c.args.q c.scan.i
of-index c = let R = rows c.args.ahead.now c.args.number.now c.args.member.now c.args.first.now c.args.after.now in
    let a = c.args in let x = c.digits_of-d.ensures in let r = c.digits_of-d.result in
    plan-at R a.t a.m a.q c.scan.i r.layer r.left r.right c.plan_of-plan.result x.1 x.2 x.3 c.plan_of-plan.ensures

pub next_of-j-requires : goal.next_of-j-requires
next_of-j-requires c = record {
  safe = subst (λ (P : Plan). Safe P c.args.q) (sym (of-index c.before.before.before)) (c.requires.verified.safe c.scan.i c.scan-test.true);
  k_bound = c.loop-k-test.true;
}

pub is_set-requires : goal.is_set-requires
is_set-requires c = let R = rows c.args.ahead.now c.args.number.now c.args.member.now c.args.first.now c.args.after.now in let a = c.args in
    let x = next-inside R a.targets.now a.t a.m a.q c.scan.i c.loop-k.k c.next_of-j.result c.plan_of-plan.result c.requires.verified c.scan-test.true (of-index c.before.before.before.before) c.loop-k-test.true c.next_of-j.ensures in
    omega (arith, x, c.requires.q_bound.0)

pub loop-k-preserved : goal.loop-k-preserved
loop-k-preserved c = let a = c.args in let l = c.loop-k in
    (l.invariant.0, omega (arith, c.loop-k-test.true), held_more a.bytes.now c.plan_of-plan.result a.targets.now a.q l.k c.next_of-j.result l.invariant.2 c.next_of-j.ensures (sym c.is_set.ensures ∙ c.if-not-is_set.false))

-- either way some columns are closed, and the scan goes on behind them
pub record Passed (A : Rows) (targets : List ℕ) (t m q : ℕ) (bytes : List ℕ) (i answer past : ℕ) : Type 0 where
  pub answer_is : answer ≡ 2 * (q * q)
  pub high : past ≤ triple_count q
  pub low : i < past
  pub n : ℕ
  pub sum : past ≡ i + n
  pub closed : ClosedFrom A targets t m q bytes i n

passed : (c : Place-Joined1) → let a = c.args in
    Passed (rows a.ahead.now a.number.now a.member.now a.first.now a.after.now) a.targets.now a.t a.m a.q a.bytes.now c.scan.i c.if-not-columns_closed.answer c.if-not-columns_closed.past
passed c = let R = rows c.args.ahead.now c.args.number.now c.args.member.now c.args.first.now c.args.after.now in
    let a = c.args in
    let s = c.scan in
    let h = tried-columns c.before.before.before in
    let x = c.digits_of-d.ensures in
    let r = c.digits_of-d.result in
    elim c.if-not-columns_closed.branch [
      | then-not-columns_closed+else-loop-k-test w ↦ record {
        answer_is = w.answer-is ∙ w.loop-k.invariant.0;
        high = omega (arith, w.past-is, c.scan-test.true);
        low = omega (arith, w.past-is);
        n = 1;
        sum = w.past-is;
        closed = closed-tried R a.targets.now a.t a.m a.q a.bytes.now s.i w.loop-k.k w.plan_of-plan.result
            (plan-at R a.t a.m a.q s.i r.layer r.left r.right w.plan_of-plan.result x.1 x.2 x.3 w.plan_of-plan.ensures) w.loop-k.invariant.2 w.loop-k-test.false;
      }
      | else-not-columns_closed w ↦ record {
        answer_is = w.answer-is ∙ s.invariant.0;
        high = omega (arith, w.past-is, h.3);
        low = omega (arith, w.past-is, h.2);
        n = c.together-n.result;
        sum = w.past-is;
        closed = subst (λ (i : ℕ). ClosedFrom R a.targets.now a.t a.m a.q a.bytes.now i c.together-n.result) x.3
            (c.columns_closed.ensures.closed_from w.if-not-columns_closed.false);
      }
    ]

pub lowest_set-i-requires-in-scan : goal.lowest_set-i-requires-in-scan
lowest_set-i-requires-in-scan c = ((passed c.before).high, c.requires.q_bound.0, c.requires.q_bound.1)

-- the next held index
next : (c : Place-After-lowest_set2) → let a = c.args in
    NextSet a.bytes.now c.if-not-columns_closed.past (2 * (a.q * a.q)) c.lowest_set-i-in-scan.result
next c =
    let a = c.args in
    next-set a.bytes.now c.if-not-columns_closed.past (2 * (a.q * a.q)) c.lowest_set-i-in-scan.result (passed c.before).high c.lowest_set-i-in-scan.ensures

pub scan-smaller : goal.scan-smaller
scan-smaller c = let n = next c.before in let p = passed c.before.before in omega (arith, n.low, n.high, p.low, p.high)

pub scan-preserved : goal.scan-preserved
scan-preserved c = let R = rows c.args.ahead.now c.args.number.now c.args.member.now c.args.first.now c.args.after.now in let a = c.args in let s = c.scan in let n = next c.before in let p = passed c.before.before in (
  p.answer_is,
  n.high,
  n.set,
  none_window R a.targets.now a.t a.m a.q a.bytes.now s.i p.n c.if-not-columns_closed.past c.lowest_set-i-in-scan.result (2 * (a.q * a.q)) p.sum p.high p.closed n s.invariant.3,
  c.columns_closed.ensures.noted_2,
)

pub returns-after-scan : goal.returns-after-scan
returns-after-scan c = let R = rows c.args.ahead.now c.args.number.now c.args.member.now c.args.first.now c.args.after.now in let a = c.args in let x = c.scan in
    λ G p. x.invariant.0 ∙ scan-none R a.targets.now a.t a.m a.q a.bytes.now x.i c.scan-test.false x.invariant.1 x.invariant.3 G p

pub returns-then-not-is_set : goal.returns-then-not-is_set
returns-then-not-is_set c = let R = rows c.args.ahead.now c.args.number.now c.args.member.now c.args.first.now c.args.after.now in let a = c.args in let s = c.scan in let h = c.scan-test.true in
    scan-found R a.targets.now a.t a.m a.q a.bytes.now s.i c.loop-k.k c.next_of-j.result c.plan_of-plan.result h (of-index c.before.before.before.before.before.before) (s.invariant.2 h) c.loop-k-test.true c.next_of-j.ensures (sym c.is_set.ensures ∙ c.if-not-is_set.true) s.invariant.3
