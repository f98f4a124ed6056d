-- column_held meets its contract: of each of the four blocks it is known that it is empty or held.
use native.Mathlib.Omega.{arith}
use mathlib.Core.Path.{sym, subst}
use Prim.Native.Nat.{ℕ, ◌+◌, ◌*◌, ◌≤◌, ◌<◌}
use Rattle.grammar.proofs.Answers.{no_bool}
use Rattle.triples.proofs.Index.{pair_lt}
use Rattle.plans.specs.Plan.{rows}
use Rattle.plans.proofs.PlanLaws.{layer_le, span_le}
use Rattle.certificate_check.proofs.ColumnLaws.{placed-side, column_closed, beside_in}
use Rattle.certificate_check.proofs.columns.column_held.Goals as goal
use Rattle.certificate_check.proofs.columns.column_held.Lts as lts
use Rattle.certificate_check.proofs.columns.column_held.Reads as reads
use Rattle.certificate_check.proofs.columns.column_held.Tie as tie

abbrev Start : Type 0
Start = lts.Start tie.the-claims reads.Pre reads.Post tie.handed_clauses

abbrev Place-After-layer_after : Type 0
Place-After-layer_after = lts.After-layer_after tie.the-claims reads.Pre reads.Post tie.handed_clauses

pub side_of-y-requires : goal.side_of-y-requires
side_of-y-requires c = c.requires.verified.fits.side c.args.b c.requires.f_bound.2

pub returns-then-not-left_held : goal.returns-then-not-left_held
returns-then-not-left_held c = record { closed_at = λ q. no_bool (sym q); noted_2 = c.requires.noted }

pub shift_held-requires : goal.shift_held-requires
shift_held-requires c = let R = rows c.args.ahead.now c.args.number.now c.args.member.now c.args.first.now c.args.after.now in let a = c.args in let p = c.requires.f_bound in record {
  q_le_max_states = (c.requires.verified.fits.few, p.0, p.1, p.2);
  b_bound = λ h.
      let l = beside_in R a.targets.now a.t a.m a.q a.bytes.now a.f a.a a.b c.requires.verified p.0 p.1 p.2
      (subst (λ (n : ℕ). 0 < n) c.shift_of-shift.ensures h) in
      omega (arith, l, p.3);
}

pub returns-then-not-shift_held : goal.returns-then-not-shift_held
returns-then-not-shift_held c = record { closed_at = λ q. no_bool (sym q); noted_2 = c.requires.noted }

-- the row of the right moves is one of the certificate's
row : (c : Place-After-layer_after) → let a = c.args in (c.layer_after.result ≤ 1) × (c.layer_after.result * a.q + a.a < 2 * a.q)
row c =
    let a = c.args in
    let l = subst (λ (n : ℕ). n ≤ 1) (sym c.layer_after.ensures) (layer_le a.m a.f c.side_of-y.result) in
    (l, pair_lt 2 a.q c.layer_after.result a.a (omega (arith, l)) c.requires.f_bound.1)

pub overflow_mul-row : goal.overflow_mul-row
overflow_mul-row c = omega (arith, (row c.before).1, c.requires.verified.fits.few)

pub overflow_add-row : goal.overflow_add-row
overflow_add-row c = omega (arith, (row c.before).1, c.requires.verified.fits.few)

pub right_held-requires : goal.right_held-requires
right_held-requires c = let R = rows c.args.ahead.now c.args.number.now c.args.member.now c.args.first.now c.args.after.now in let a = c.args in record { q_le_max_states = (c.requires.verified.fits.few, (row c.before.before).1, c.requires.f_bound.3); placed = placed-side R a.targets.now a.t a.m a.q a.b c.side_of-y.result c.requires.verified c.requires.f_bound.2 c.side_of-y.ensures; noted = c.requires.noted }

pub returns-then-not-right_held : goal.returns-then-not-right_held
returns-then-not-right_held c = record { closed_at = λ q. no_bool (sym q); noted_2 = c.right_held.ensures.noted_2 }

pub pairs_of-pairs-requires : goal.pairs_of-pairs-requires
pairs_of-pairs-requires c = let a = c.args in let f = c.requires.verified.fits in (
  omega (arith, c.requires.f_bound.1, f.few),
  omega (arith, c.requires.f_bound.2, f.few),
  span_le a.member.now a.first.now a.a a.x (f.side a.a c.requires.f_bound.1) c.requires.x_value,
  span_le a.member.now a.first.now a.b c.side_of-y.result (f.side a.b c.requires.f_bound.2) c.side_of-y.ensures,
)

pub parts_held-requires : goal.parts_held-requires
parts_held-requires c = let R = rows c.args.ahead.now c.args.number.now c.args.member.now c.args.first.now c.args.after.now in let a = c.args in record { q_le_max_states = (c.requires.verified.fits.few, c.requires.f_bound.3); placed = placed-side R a.targets.now a.t a.m a.q a.a a.x c.requires.verified c.requires.f_bound.1 c.requires.x_value; placed_2 = placed-side R a.targets.now a.t a.m a.q a.b c.side_of-y.result c.requires.verified c.requires.f_bound.2 c.side_of-y.ensures; noted = c.right_held.ensures.noted_2 }

pub returns : goal.returns
returns c = let R = rows c.args.ahead.now c.args.number.now c.args.member.now c.args.first.now c.args.after.now in let a = c.args in
    record {
      closed_at = λ q. column_closed R a.targets.now a.t a.m a.q a.bytes.now a.f a.a a.b a.x c.side_of-y.result c.layer_after.result
          c.alone_of-left.result c.alone_of-right.result c.shift_of-shift.result c.pairs_of-pairs.result
          c.requires.f_bound.1 c.requires.f_bound.2 c.requires.x_value c.side_of-y.ensures c.layer_after.ensures
          c.alone_of-left.ensures c.alone_of-right.ensures c.shift_of-shift.ensures c.pairs_of-pairs.ensures
          (λ z. c.requires.left_held (c.left_held.ensures (c.if-not-left_held.false) z))
          (c.right_held.ensures.row_held (c.if-not-right_held.false))
          (c.shift_held.ensures (c.if-not-shift_held.false))
          (c.parts_held.ensures.pairs_held q);
      noted_2 = c.parts_held.ensures.noted_2;
    }
